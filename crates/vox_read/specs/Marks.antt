-- Bits that mark the cells of a model, one for each place.
use Rattle.std.specs.Prelude.{◌≡◌, ℕ, ◌≤◌, ◌*◌, List, length}
use Rattle.vw_cell.specs.Bits.{is_set}
use Rattle.vw_cell.specs.declared.cells.Cell.{Cell}
use Rattle.vw_cell.specs.Counts.{IsBelow, number_below}
use Rattle.vox_read.specs.declared.voxels.Voxel.{Voxel}
use Rattle.vox_read.specs.Contents.{is_cell}
use Rattle.vox_read.specs.Places.{index_of, volume_of}

-- the bits mark the cells that these voxels make, and `cells` is their number
pub record Marks (size : Cell) (voxels : List Voxel) (words : List ℕ) (cells : ℕ) : Type 0 where
  pub room : volume_of size ≤ 64 * length words
  pub each : (c : Cell) → IsBelow size c → is_set words (index_of size c) ≡ is_cell voxels c
  pub number : cells ≡ number_below size (is_cell voxels)
