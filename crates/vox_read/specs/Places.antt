-- The places of a model, numbered.
use Rattle.std.specs.Prelude.{ℕ, ◌+◌, ◌*◌}
use Rattle.vw_cell.specs.declared.cells.Cell.{Cell}
use Rattle.vox_read.specs.declared.voxels.Voxel.{Voxel}

-- the place of a voxel
abbrev pub voxel_place : Voxel → Cell
voxel_place v = record { x = v.x; y = v.y; z = v.z }

-- the number of places below a size
abbrev pub volume_of : Cell → ℕ
volume_of size = size.x * (size.y * size.z)

-- the number of a place below a size: along x first, then y, then z
abbrev pub index_of : Cell → Cell → ℕ
index_of size c = (c.z * size.y + c.y) * size.x + c.x
