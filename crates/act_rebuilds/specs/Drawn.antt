-- What contracts see of the models of a world that were drawn.
use Rattle.std.specs.Prelude.{◌≡◌, ℕ, Bool, true, false, List, Option, Some, None, All, ⊤}
use Rattle.std.specs.List.{slice_get}
use Rattle.vw_cell.specs.declared.cells.Cell.{Cell}
use Rattle.vw_cell.specs.Places.{FitsAt}
use Rattle.vox_read.specs.Contents.{Content}
use Rattle.history_model.specs.declared.acts.Act.{Act}
use Rattle.history_model.specs.declared.acts.Act.TheVariants.{Stamp, Tint}
use Rattle.history_model.specs.declared.acts.TintAct.TheVariants as tints
use Rattle.edit_stamp.specs.Drawings.{Drawn, Draws}
use Rattle.colour.specs.Planes.{TintsPlaces}

-- whether the world's cells have tints, and its models
pub record WorldModels : Type 0 where
  pub tint : Bool
  pub models : List Content

-- those that were drawn by their tints where cells have tints, else those by their cells
abbrev pub models_by : Bool → List Content → List Content → List Content
models_by true cells tints = tints
models_by false cells tints = cells

-- where cells have tints, each place of each model has one
abbrev pub HaveTints : Bool → List Content → Type 0
HaveTints true models = All TintsPlaces models
HaveTints false models = ⊤

-- these are the cells of the model of this number
pub record DrawsNumber (models : List Content) (number : ℕ) (cells : Drawn) : Type 0 where
  pub model : Content
  pub is_there : slice_get models number ≡ Some model
  pub draws : Draws model cells

-- the size of a model, where there is one
abbrev pub size_of : Option Content → Option Cell
size_of None = None
size_of (Some model) = Some model.size

-- a model of this size, where there is one, stands at this place within so many cells an axis
abbrev pub SizeFits : ℕ → Option Cell → Cell → Type 0
SizeFits n None at = ⊥
SizeFits n (Some size) at = FitsAt at size n

-- the act puts a model down
abbrev pub stamps_model : Act → Bool
stamps_model (Stamp m at) = true
stamps_model (Tint (tints.Stamp m at)) = true
stamps_model other = false
