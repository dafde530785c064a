-- Versions that are kept, marks that come to a log, and worlds that are the same.
use Rattle.std.specs.Prelude.{◌≡◌, ◌≢◌, ℕ, ◌<◌, ◌≤◌, List, ◌∷◌, ◌++◌, length, All}
use Rattle.vw_cell.specs.declared.cells.Cell.{Cell}
use Rattle.vw_cell.specs.Places.{IsInWorld}
use Rattle.history_model.specs.declared.histories.Mark.{Mark}
use Rattle.history_model.specs.Logs.{Log}
use Rattle.history_model.specs.Worlds.{World}

-- two worlds have the same cells in the world of this side
pub record SameWorld (side : ℕ) (v w : World) : Type 0 where
  pub each : (q : Cell) → IsInWorld side q → v q ≡ w q

-- no mark is one of this version
abbrev pub IsUnmarked : List Mark → ℕ → Type 0
IsUnmarked marks v = All (λ mark. mark.version ≢ v) marks

-- the version is there, and isn't forgotten
pub record HoldsVersion (log : Log) (v : ℕ) : Type 0 where
  pub there : v ≤ length log.records
  pub unmarked : IsUnmarked log.marks v

-- the mark comes to its place among marks by rising version
pub record InsertsMark (old : List Mark) (mark : Mark) (new : List Mark) : Type 0 where
  pub before : List Mark
  pub after : List Mark
  pub was : old ≡ before ++ after
  pub is : new ≡ before ++ mark ∷ after
  pub lower : All (λ m. m.version < mark.version) before
  pub higher : All (λ m. mark.version < m.version) after
