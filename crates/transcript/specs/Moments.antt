-- Moments that never fall.
use Rattle.std.specs.Prelude.{ℕ, ◌&&◌, Bool, true, List, [], ◌∷◌, nat_le}
use Rattle.transcript.specs.declared.answers.LineAnswer.{LineAnswer}

-- each moment is at least the one before, and the first at least this one
unfoldable pub never_fall : ℕ → List LineAnswer → Bool
never_fall last [] = true
never_fall last (a ∷ more) = nat_le last a.at && never_fall a.at more
