-- The marks of a log, as a look-up by version and as the list that it gives.
use Rattle.std.specs.Prelude.{◌≡◌, ◌≢◌, ℕ, zero, suc, Option, Some, None, List, [], ◌∷◌, ◌++◌}
use Rattle.history_model.specs.declared.histories.Mark.{Mark}

-- the mark behind the others, where there is one
abbrev pub with_mark : List Mark → Option Mark → List Mark
with_mark marks None = marks
with_mark marks (Some mark) = marks ++ mark ∷ []

-- the marks of the versions below a number, by rising version
unfoldable pub marks_below : (ℕ → Option Mark) → ℕ → List Mark
marks_below marks zero = []
marks_below marks (suc n) = with_mark (marks_below marks n) (marks n)

-- each mark that is looked up is one of its version
pub record AreOfVersions (marks : ℕ → Option Mark) : Type 0 where
  pub each : (v : ℕ) (mark : Mark) → marks v ≡ Some mark → mark.version ≡ v

-- the look-up gets this mark for its version, which had none, and is as before for all others
pub record GetsMark (old : ℕ → Option Mark) (mark : Mark) (new : ℕ → Option Mark) : Type 0 where
  pub free : old mark.version ≡ None
  pub here : new mark.version ≡ Some mark
  pub others : (v : ℕ) → v ≢ mark.version → new v ≡ old v
