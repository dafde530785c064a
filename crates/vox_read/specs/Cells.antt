-- A list of the cells of a model.
use Rattle.std.specs.Prelude.{◌≡◌, ◌≢◌, Bool, List, All, AllPairs}
use Rattle.std.specs.List.{list_any}
use Rattle.vw_cell.specs.declared.cells.Cell.{Cell}
use Rattle.vox_read.specs.declared.voxels.Voxel.{Voxel}
use Rattle.vox_read.specs.Contents.{Content, IsInsideModel, is_cell, is_voxel_at}
use Rattle.vox_read.specs.Places.{voxel_place}

-- one of the voxels stands at the place
abbrev pub has_voxel : List Voxel → Cell → Bool
has_voxel voxels p = list_any (is_voxel_at p) voxels

-- these voxels stand at the cells of the model and nowhere else, each below its size and no two at
-- one place
pub record AreCells (m : Content) (cells : List Voxel) : Type 0 where
  pub exactly : (p : Cell) → has_voxel cells p ≡ is_cell m.voxels p
  pub inside : All (IsInsideModel m.size) cells
  pub once : AllPairs (λ v w. voxel_place v ≢ voxel_place w) cells
