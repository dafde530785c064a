-- What the 64 bits of a leaf show: bit x + 4y + 16z is that of the cell at (x, y, z) of the leaf's
-- block.
use Rattle.std.specs.Prelude.{◌≡◌, ℕ, ◌+◌, ◌%◌, ◌<◌, Bool, List, ◌==◌, slice_index}
use Rattle.std.specs.Int.{bit_at}
use Rattle.node_words.specs.Counts.{cell_at}
use Rattle.node_words.specs.Cell.{Cell}
use Rattle.node_words.specs.Block.{Block}
use Rattle.node_words.specs.shapes.Shape.{bit_number, octant_number}

-- the bits set are those of the cells of the leaf's block that pass the test
pub record LeafShows (bits : ℕ) (block : Block) (test : Cell → Bool) : Type 0 where
  pub each : (x y z : ℕ) → x < 4 → y < 4 → z < 4
      → (bit_at bits (bit_number x y z) == 1) ≡ test
      (cell_at (block.at.x + x) (block.at.y + y) (block.at.z + z))

-- the bits are those of the 4 x 4 x 4 cells from (dx, dy, dz) on, of the 8 x 8 x 8 cells of eight
-- leaves
pub record LiesAcross (leaves : List ℕ) (dx dy dz bits : ℕ) : Type 0 where
  pub each : (x y z : ℕ) → x < 4 → y < 4 → z < 4
      → bit_at bits (bit_number x y z)
      ≡ bit_at (slice_index leaves (octant_number 4 (x + dx) (y + dy) (z + dz)))
      (bit_number ((x + dx) % 4) ((y + dy) % 4) ((z + dz) % 4))
