-- Places and parts of a block, told from its corner or from an octant's.
use Rattle.std.specs.Prelude.{◌≡◌, ℕ, ◌+◌, ◌-◌, ◌*◌, ◌≤◌, ◌⊎◌, min}
use Rattle.std.proofs.Common.{zero, suc}
use Rattle.vw_cell.specs.Places.{half_x, half_y, half_z, block_side, IsInWorld, is_in_box}
use Rattle.vw_cell.specs.declared.cells.Cell.{Cell}
use Rattle.vw_cell.specs.Counts.{cell_at}
use Rattle.vw_cell.specs.declared.boxes.Boxed.{Boxed}

-- a box that ends within this many cells of the corner on each axis, and may have no cell
pub record EndsBy (side : ℕ) (b : Boxed) : Type 0 where
  pub x : b.at.x + b.size.x ≤ side
  pub y : b.at.y + b.size.y ≤ side
  pub z : b.at.z + b.size.z ≤ side

-- a place told from where the lower or the upper half begins: its beginning or its end, where it
-- lies outside
abbrev pub half_at : ℕ → ℕ → ℕ → ℕ
half_at half zero at = min at half
half_at half (suc i) at = min (at - half) half

-- how much of a stretch lies in the lower or the upper half
abbrev pub half_size : ℕ → ℕ → ℕ → ℕ → ℕ
half_size half i at size = half_at half i (at + size) - half_at half i at

-- the part of a box in an octant, told from the octant's corner
abbrev pub part_in : ℕ → Boxed → ℕ → Boxed
part_in half b k = record {
  at = cell_at (half_at half (half_x k) b.at.x) (half_at half (half_y k) b.at.y)
      (half_at half (half_z k) b.at.z);
  size = cell_at
      (half_size half (half_x k) b.at.x b.size.x)
      (half_size half (half_y k) b.at.y b.size.y)
      (half_size half (half_z k) b.at.z b.size.z);
}

-- a place of an octant, told from the block's corner
abbrev pub placed : ℕ → ℕ → Cell → Cell
placed half k c = cell_at (half_x k * half + c.x) (half_y k * half + c.y) (half_z k * half + c.z)

-- a box of an octant, told from the block's corner
abbrev pub placed_box : ℕ → ℕ → Boxed → Boxed
placed_box half k b = record { at = placed half k b.at; size = b.size }

-- the whole of a block of this level
abbrev pub whole_of : ℕ → Boxed
whole_of level =
    record {
      at = cell_at 0 0 0;
      size = cell_at (block_side level) (block_side level)
          (block_side level);
    }

-- a box without a cell
abbrev pub IsEmpty : Boxed → Type 0
IsEmpty b = (b.size.x ≡ 0) ⊎ (b.size.y ≡ 0) ⊎ (b.size.z ≡ 0)

-- a box of an octant has just the cells that a box of its block has there
pub record HasCellsOf (half octant : ℕ) (b part : Boxed) : Type 0 where
  pub each : (c : Cell) → IsInWorld half c → is_in_box part c ≡ is_in_box b (placed half octant c)
