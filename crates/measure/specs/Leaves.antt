-- The bits of a leaf as cells.
use Rattle.std.specs.Prelude.{◌≡◌, ℕ, ◌*◌, ◌<◌, ◌==◌, Bool}
use Rattle.std.specs.Int.{bit_at}
use Rattle.vw_cell.specs.declared.cells.Cell.{Cell}
use Rattle.vw_cell.specs.declared.blocks.Block.{Block}
use Rattle.vw_cell.specs.Places.{half_x, half_y, half_z}
use Rattle.vw_cell.specs.Counts.{cell_at}
use Rattle.node_words.specs.shapes.Shape.{bit_number}

-- the bits of a leaf are those of the cells that pass the test
pub record BitsPassTest (bits : ℕ) (test : Cell → Bool) : Type 0 where
  pub each : (x y z : ℕ) → x < 4 → y < 4 → z < 4
      → (bit_at bits (bit_number x y z) == 1) ≡ test (cell_at x y z)

-- the leaf in an octant of a block of eight leaves, told from the block's corner
abbrev pub octant_leaf : ℕ → Block
octant_leaf k =
    record { level = 0; at = cell_at (half_x k * 4) (half_y k * 4) (half_z k * 4) }
