-- What a session lists of what it did and saw.
use Rattle.std.specs.Prelude.{ℕ, ◌+◌, List, [], ◌∷◌}
use Rattle.history_model.specs.declared.histories.Record.{Record}

-- a number and the record that has it
pub record Accepted : Type 0 where
  pub at : ℕ
  pub entry : Record

-- records with their numbers, from this one on
abbrev pub numbered : ℕ → List Record → List Accepted
numbered n [] = []
numbered n (r ∷ more) = record { at = n; entry = r } ∷ numbered (n + 1) more

-- a version on which there was no mark at this length
pub record Found : Type 0 where
  pub version : ℕ
  pub at : ℕ
