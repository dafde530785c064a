-- What a file of many versions tells of the cells of one of them, or of two.
use Rattle.std.specs.Prelude.{◌≡◌, ℕ, ◌-◌, ◌^◌, ◌↔◌, Bool, IsTrue, List, Option}
use Rattle.vw_cell.specs.declared.cells.Cell.{Cell}
use Rattle.vw_cell.specs.declared.boxes.Boxed.{Boxed}
use Rattle.vw_cell.specs.Extents.{IsExtent}
use Rattle.vox_read.specs.declared.voxels.Voxel.{Voxel}
use Rattle.history_model.specs.Worlds.{World}
use Rattle.core_laws.specs.contents.Versions.{SameWorld}
use Rattle.measure.specs.Changes.{differs}
use Rattle.extract.specs.Saved.{file_of_box}
use Rattle.extract.specs.Surface.{surface_of_box}
use Rattle.flood.specs.Regions.{FilesRegion}
use Rattle.dag_file.specs.Trees.{IsVersion, HasVersion}
use Rattle.dag_answers.specs.Looks.{version_has}

-- P of the cells of the version of this number, which the file has
pub record OfVersion (bytes : List ℕ) (side number : ℕ) (P : World → Type 0) : Type 0 where
  pub v : ℕ
  pub is : IsVersion bytes (side - 1) number v
  pub holds : P (version_has bytes side v)

-- the file has both versions
abbrev pub HasBoth : List ℕ → ℕ → ℕ → ℕ → Type 0
HasBoth bytes side a b = HasVersion bytes (side - 1) a × HasVersion bytes (side - 1) b

-- the least box of all cells that one of two versions has and the other hasn't
abbrev pub TellsChanges : List ℕ → ℕ → ℕ → ℕ → Option Boxed → Type 0
TellsChanges bytes side a b least =
    OfVersion bytes side a (λ old. OfVersion bytes side b
    (λ new. IsExtent (2 ^ side) (differs old new) least))

-- whether two versions have the same cells
abbrev pub TellsSame : List ℕ → ℕ → ℕ → ℕ → Bool → Type 0
TellsSame bytes side a b same =
    OfVersion bytes side a (λ old. OfVersion bytes side b
    (λ new. IsTrue same ↔ SameWorld (2 ^ side) old new))

-- the VOX file of a box of a version
abbrev pub TellsFile : List ℕ → ℕ → ℕ → Boxed → List ℕ → Type 0
TellsFile bytes side number part file =
    OfVersion bytes side number (λ cells. file ≡ file_of_box part cells)

-- the cells of a box of a version that can be seen, with their bare sides
abbrev pub TellsSurface : List ℕ → ℕ → ℕ → Boxed → List Voxel → Type 0
TellsSurface bytes side number part voxels =
    OfVersion bytes side number (λ cells. voxels ≡ surface_of_box (2 ^ side) cells part)

-- the region of a box of a version that is connected with a cell: how many cells, and their file
abbrev pub TellsRegion : List ℕ → ℕ → ℕ → Boxed → Cell → ℕ → List ℕ → Type 0
TellsRegion bytes side number part from cells file =
    OfVersion bytes side number (FilesRegion part from cells file)
