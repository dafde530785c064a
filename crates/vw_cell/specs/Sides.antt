-- The sides that a world can have.
use Rattle.std.specs.Prelude.{ℕ, List, [], ◌∷◌, Bool, ◌==◌}
use Rattle.std.specs.List.{list_any}

-- every side of a world, in cells
abbrev pub sides : List ℕ
sides = 4 ∷ 8 ∷ 16 ∷ 32 ∷ 64 ∷ 128 ∷ 256 ∷ 512 ∷ 1024 ∷ 2048 ∷ 4096 ∷ []

abbrev pub is_side : ℕ → Bool
is_side n = list_any (λ side. side == n) sides
