-- The empty region of a box that is connected with a cell.
use Rattle.std.specs.Prelude.{◌≡◌, ℕ, Bool, true, false, List, ◌++◌}
use Rattle.vw_cell.specs.declared.cells.Cell.{Cell}
use Rattle.vw_cell.specs.declared.boxes.Boxed.{Boxed}
use Rattle.vw_cell.specs.Places.{IsInBox}
use Rattle.vox_read.specs.declared.voxels.Voxel.{Voxel}
use Rattle.extract.specs.Listing.{voxels_of_box}
use Rattle.vw_cell.specs.Counts.{number_in}
use Rattle.extract.specs.Saved.{file_of_box}
use Rattle.flood.specs.Paths.{IsJoined}

-- a cell of the box that isn't set
pub record IsClearIn (b : Boxed) (cells : Cell → Bool) (c : Cell) : Type 0 where
  pub inside : IsInBox b c
  pub clear : cells c ≡ false

-- the test tells the cells that ways through the clear cells of the box join with `from`
pub record IsRegion (b : Boxed) (cells : Cell → Bool) (from : Cell)
    (region : Cell → Bool) : Type 0 where
  pub only : (c : Cell) → region c ≡ true → IsJoined (IsClearIn b cells) from c
  pub all : (c : Cell) → IsJoined (IsClearIn b cells) from c → region c ≡ true

-- the region's cells were appended, by rising z, then y, then x, told from the box's corner
pub record AppendsRegion (b : Boxed) (from : Cell) (old new : List Voxel)
    (cells : Cell → Bool) : Type 0 where
  pub region : Cell → Bool
  pub is_region : IsRegion b cells from region
  pub added : new ≡ old ++ voxels_of_box b region

-- the number of the region's cells, and the file whose one model has the box's size and those cells
pub record FilesRegion (b : Boxed) (from : Cell) (number : ℕ) (file : List ℕ)
    (cells : Cell → Bool) : Type 0 where
  pub region : Cell → Bool
  pub is_region : IsRegion b cells from region
  pub counted : number ≡ number_in b region
  pub filed : file ≡ file_of_box b region
