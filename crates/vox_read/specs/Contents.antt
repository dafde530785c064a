-- What a model is, and which places of it are cells.
use Rattle.std.specs.Prelude.{ℕ, ◌<◌, ◌≤◌, ◌==◌, ◌&&◌, Bool, not, List, Option, Some, None, All, find, sum_by, reverse, length}
use Rattle.vw_cell.specs.declared.cells.Cell.{Cell}
use Rattle.vw_cell.specs.Counts.{number_below}
use Rattle.vox_read.specs.declared.voxels.Voxel.{Voxel}

-- a model: its size, and its voxels in the order of the file
pub record Content : Type 0 where
  pub size : Cell
  pub voxels : List Voxel

abbrev pub is_voxel_at : Cell → Voxel → Bool
is_voxel_at p v = (v.x == p.x) && (v.y == p.y) && (v.z == p.z)

abbrev pub colour_of : Option Voxel → ℕ
colour_of None = 0
colour_of (Some v) = v.colour

-- the colour of the last voxel at a place, 0 where there is none
abbrev pub colour_at : List Voxel → Cell → ℕ
colour_at voxels p = colour_of (find (is_voxel_at p) (reverse voxels))

-- a cell of a model is a place whose last voxel has a colour other than 0
abbrev pub is_cell : List Voxel → Cell → Bool
is_cell voxels p = not (colour_at voxels p == 0)

-- the number of cells of a model
abbrev pub cells_in_size : Content → ℕ
cells_in_size m = number_below m.size (is_cell m.voxels)

-- the number of cells of all models, each counted by itself
abbrev pub cells_of_all : List Content → ℕ
cells_of_all models = sum_by cells_in_size models

-- a size that a model can have on one axis
abbrev pub IsModelExtent : ℕ → Type 0
IsModelExtent n = (1 ≤ n) × (n ≤ 256)

-- a size that a model can have
pub record IsSize (size : Cell) : Type 0 where
  pub x : IsModelExtent size.x
  pub y : IsModelExtent size.y
  pub z : IsModelExtent size.z

-- the voxel stands inside a model of this size, whatever its colour
pub record IsInsideModel (size : Cell) (v : Voxel) : Type 0 where
  pub x : v.x < size.x
  pub y : v.y < size.y
  pub z : v.z < size.z

-- a model that a file can hold
pub record IsModel (m : Content) : Type 0 where
  pub size : IsSize m.size
  pub voxels : All (IsInsideModel m.size) m.voxels

-- the models that a file can hold
pub record AreModels (models : List Content) : Type 0 where
  pub each : All IsModel models
  pub few : length models ≤ 1024
