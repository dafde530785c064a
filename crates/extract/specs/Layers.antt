-- The leaves of a layer of a box, and what is appended to a list of voxels.
use Rattle.std.specs.Prelude.{◌≡◌, ℕ, ◌+◌, ◌-◌, ◌*◌, ◌/◌, ◌%◌, ◌<◌, ◌≤◌, ◌==◌, List, ◌++◌, length, slice_index, Bool, vec_len, vec_capacity}
use Rattle.std.specs.declared.vec.Vec.{Vec}
use Rattle.std.specs.Int.{bit_at}
use Rattle.vw_cell.specs.declared.cells.Cell.{Cell}
use Rattle.vw_cell.specs.declared.boxes.Boxed.{Boxed}
use Rattle.vw_cell.specs.declared.blocks.Block.{Block}
use Rattle.vw_cell.specs.Counts.{cell_at}
use Rattle.vox_read.specs.declared.voxels.Voxel.{Voxel}
use Rattle.node_words.specs.shapes.Shape.{bit_number}
use Rattle.node_words.specs.kernels.Leaves.{LeafShows}

-- how many leaves a stretch of an axis meets
abbrev pub leaves_met : ℕ → ℕ → ℕ
leaves_met at size = (at + size + 3) / 4 - at / 4

-- how many leaves one layer of a box meets along x, and in all
abbrev pub leaves_along : Boxed → ℕ
leaves_along b = leaves_met b.at.x b.size.x

abbrev pub leaves_in : Boxed → ℕ
leaves_in b = leaves_met b.at.y b.size.y * leaves_along b

-- the leaf's block of this corner
abbrev pub leaf_block : Cell → Block
leaf_block c = record { level = 0; at = c }

-- the corner of the m-th leaf of a layer, row by row
abbrev pub leaf_corner : Boxed → ℕ → ℕ → Cell
leaf_corner b layer m =
    cell_at (4 * (b.at.x / 4 + m % leaves_along b)) (4 * (b.at.y / 4 + m / leaves_along b))
    (4 * layer)

-- the first words show the leaves of a layer of a box
pub record HoldsLayer (words : List ℕ) (b : Boxed) (layer : ℕ) (n : ℕ)
    (cells : Cell → Bool) : Type 0 where
  pub each : (m : ℕ) → m < n
      → LeafShows (slice_index words m) (leaf_block (leaf_corner b layer m)) cells

-- a place at which leaves begin
pub record IsLeafCorner (c : Cell) : Type 0 where
  pub x : c.x % 4 ≡ 0
  pub y : c.y % 4 ≡ 0
  pub z : c.z % 4 ≡ 0

-- the cells of a leaf's bits
abbrev pub bits_show : ℕ → Cell → Bool
bits_show bits c = bit_at bits (bit_number c.x c.y c.z) == 1

-- a row of n cells from `at` on lies below the side
pub record IsRow (side : ℕ) (at : Cell) (n : ℕ) : Type 0 where
  pub x : at.x + n ≤ side
  pub y : at.y < side
  pub z : at.z < side

-- room for so many more
abbrev pub HasRoom : {Z : Type 0} → Vec Voxel Z → ℕ → Type 0
HasRoom v n = vec_len v + n ≤ vec_capacity v

-- these voxels were appended, in the room that was there
pub record AppendsVoxels {Z : Type 0} (voxels : List Voxel) (old new : Vec Voxel Z) : Type 0 where
  pub items : new.items ≡ old.items ++ voxels
  pub len : vec_len new ≡ vec_len old + length voxels
  pub room : vec_capacity new ≡ vec_capacity old

-- a box with cells, none of whose sizes is over 256, within the greatest world
pub record IsSmallLayer (b : Boxed) : Type 0 where
  pub x : (1 ≤ b.size.x) × (b.size.x ≤ 256) × (b.at.x + b.size.x ≤ 4096)
  pub y : (1 ≤ b.size.y) × (b.size.y ≤ 256) × (b.at.y + b.size.y ≤ 4096)
  pub z : (1 ≤ b.size.z) × (b.size.z ≤ 256) × (b.at.z + b.size.z ≤ 4096)
