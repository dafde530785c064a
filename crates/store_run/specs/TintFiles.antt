-- The VOX file of a box of a world whose cells have tints.
use Rattle.std.specs.Prelude.{ℕ, ◌+◌, ◌-◌, ◌^◌, List, map}
use Rattle.vw_cell.specs.declared.cells.Cell.{Cell}
use Rattle.vw_cell.specs.declared.boxes.Boxed.{Boxed}
use Rattle.vw_cell.specs.Counts.{cell_at}
use Rattle.vox_read.specs.declared.voxels.Voxel.{Voxel}
use Rattle.vox_read.specs.Contents.{Content}
use Rattle.vox_write.specs.Written.{model_file}
use Rattle.history_model.specs.Tints.{Tints}
use Rattle.history_model.specs.Worlds.{World}
use Rattle.extract.specs.Listing.{voxels_of_box}
use Rattle.act_rebuilds.specs.Reading.{tinted_voxels}

-- the tint of the cell of a voxel that is told from this corner
abbrev pub its_tint : Tints → Cell → Voxel → ℕ
its_tint tints corner v =
    tints (cell_at (corner.x + v.x) (corner.y + v.y) (corner.z + v.z))

-- the voxel of a box from this corner, with the tint of its cell as its colour
abbrev pub with_its_tint : Tints → Cell → Voxel → Voxel
with_its_tint tints corner v = record {
  x = v.x;
  y = v.y;
  z = v.z;
  colour = its_tint tints corner v;
}

-- the set cells of a box as a model, by rising z, then y, then x, told from the box's corner, each
-- with its tint as its colour
abbrev pub model_of_tints : Boxed → World → Tints → Content
model_of_tints b cells tints = record {
  size = b.size;
  voxels = map (with_its_tint tints b.at) (voxels_of_box b cells);
}

-- the bytes of its file
abbrev pub file_of_tints : Boxed → World → Tints → List ℕ
file_of_tints b cells tints = model_file (model_of_tints b cells tints)

-- the same of the world whose tints these cells of a store keep, whose side has this exponent
abbrev pub file_of_kept_tints : ℕ → Boxed → World → List ℕ
file_of_kept_tints side b cells =
    model_file (record { size = b.size; voxels = tinted_voxels (2 ^ (side - 2)) b cells })
