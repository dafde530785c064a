-- The least box of all set cells.
use Rattle.std.specs.Prelude.{◌≡◌, ℕ, ◌+◌, ◌≤◌, Bool, true, false, Option, Some, None}
use Rattle.vw_cell.specs.declared.cells.Cell.{Cell}
use Rattle.vw_cell.specs.declared.boxes.Boxed.{Boxed}
use Rattle.vw_cell.specs.Places.{IsInWorld, IsInBox}

-- the box has each set cell of a world of this side
pub record HoldsAll (side : ℕ) (cells : Cell → Bool) (b : Boxed) : Type 0 where
  pub each : (c : Cell) → IsInWorld side c → cells c ≡ true → IsInBox b c

-- the first box lies in the second
pub record LiesWithin (b d : Boxed) : Type 0 where
  pub x : (d.at.x ≤ b.at.x) × (b.at.x + b.size.x ≤ d.at.x + d.size.x)
  pub y : (d.at.y ≤ b.at.y) × (b.at.y + b.size.y ≤ d.at.y + d.size.y)
  pub z : (d.at.z ≤ b.at.z) × (b.at.z + b.size.z ≤ d.at.z + d.size.z)

-- some cell is set, and the box is the least one that has all of them
pub record IsLeastBox (side : ℕ) (cells : Cell → Bool) (b : Boxed) : Type 0 where
  pub some : Cell
  pub inside : IsInWorld side some
  pub set : cells some ≡ true
  pub holds : HoldsAll side cells b
  pub least : (d : Boxed) → HoldsAll side cells d → LiesWithin b d

-- the least box of all set cells, none where no cell is set
abbrev pub IsExtent : ℕ → (Cell → Bool) → Option Boxed → Type 0
IsExtent side cells None = (c : Cell) → IsInWorld side c → cells c ≡ false
IsExtent side cells (Some b) = IsLeastBox side cells b
