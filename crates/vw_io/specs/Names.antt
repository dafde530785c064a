-- When the name of an output is taken.
use Rattle.std.specs.Prelude.{ℕ, Bool, false, ◌||◌, List, [], ◌∷◌}
use Rattle.std.specs.List.{list_any}
use Rattle.std.specs.Str.{bytes_eq}
use Rattle.vw_io.specs.Inputs.{WantedInput}

-- one of these names of outputs is an input's, or a later output's
abbrev pub collide : List (List ℕ) → List WantedInput → Bool
collide [] inputs = false
collide (name ∷ others) inputs =
    list_any (λ input. bytes_eq input.name name) inputs ||
    (list_any (λ other. bytes_eq other name) others || collide others inputs)
