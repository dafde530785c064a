-- The VOX file of a box: its set cells are the voxels of the one model, which has the box's size.
use Rattle.std.specs.Prelude.{ℕ, List, Bool}
use Rattle.vw_cell.specs.declared.cells.Cell.{Cell}
use Rattle.vw_cell.specs.declared.boxes.Boxed.{Boxed}
use Rattle.vox_read.specs.Contents.{Content}
use Rattle.vox_write.specs.Written.{model_file}
use Rattle.extract.specs.Listing.{voxels_of_box}

-- the set cells of a box as a model, by rising z, then y, then x, told from the box's corner and
-- with colour 1
abbrev pub model_of_box : Boxed → (Cell → Bool) → Content
model_of_box b cells = record { size = b.size; voxels = voxels_of_box b cells }

-- the bytes of its file
abbrev pub file_of_box : Boxed → (Cell → Bool) → List ℕ
file_of_box b cells = model_file (model_of_box b cells)
