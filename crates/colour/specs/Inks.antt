-- The tints of a model as a stamp sees them: a drawing for each bit.
use Rattle.std.specs.Prelude.{◌≡◌, ℕ, ◌<◌, List, [], length, slice_index_or, Option, Some, None, ⊤}
use Rattle.std.specs.List.{slice_get}
use Rattle.vw_cell.specs.declared.cells.Cell.{Cell}
use Rattle.vw_cell.specs.Counts.{cell_at, IsBelow}
use Rattle.vw_cell.specs.Places.{FitsAt}
use Rattle.vox_read.specs.Contents.{Content, colour_at}
use Rattle.node_words.specs.contents.CellShapes.{bits_below}
use Rattle.edit_stamp.specs.Drawings.{Drawn, drawn_cells}
use Rattle.history_model.specs.Worlds.{World}
use Rattle.history_model.specs.declared.acts.TintAct.{TintAct}
use Rattle.history_model.specs.declared.acts.TintAct.TheVariants.{Stamp}
use Rattle.history_model.specs.Tints.{Tints, tints_from, untinted}
use Rattle.history_model.specs.Logs.{TintFits}
use Rattle.history_model.specs.Planes.{tells}
use Rattle.history_model.specs.Parts.{part}

-- a model's size, and the places of its tints that have each of eight bits
pub record Inked : Type 0 where
  pub size : Cell
  pub bits : List Drawn

-- a drawing without a cell
abbrev pub none_drawn : Drawn
none_drawn = record { size = cell_at 0 0 0; words = [] }

-- the drawing of a bit
abbrev pub bit_drawn : List Drawn → ℕ → Drawn
bit_drawn bits b = slice_index_or bits b none_drawn

-- the tints of the places
abbrev pub inked_tints : Inked → Tints
inked_tints inked q = bits_below (λ b. drawn_cells (bit_drawn inked.bits b) q) 8

-- the tints that they put with their least corner at a place
abbrev pub ink_at : Inked → Cell → Tints
ink_at inked at = tints_from inked.size (inked_tints inked) at

-- they are those of the model
pub record DrawsTints (model : Content) (inked : Inked) : Type 0 where
  pub size : inked.size ≡ model.size
  pub each : (q : Cell) → IsBelow model.size q → inked_tints inked q ≡ colour_at model.voxels q

-- it is the drawing of their cells in one plane
pub record DrawsPlane (plane : ℕ) (inked : Inked) (drawn : Drawn) : Type 0 where
  pub size : drawn.size ≡ inked.size
  pub each : (q : Cell) → IsBelow inked.size q
      → drawn_cells drawn q ≡ tells plane (inked_tints inked q)

-- there is a drawing of each bit, and one of the places whose tint isn't 0, all of one size
pub record AreDrawn (inked : Inked) (cells : Drawn) : Type 0 where
  pub number : length inked.bits ≡ 8
  pub sizes : (b : ℕ) → b < 8 → (bit_drawn inked.bits b).size ≡ inked.size
  pub draws : DrawsPlane 0 inked cells

-- the tints that an act puts over those before it: those of a stamp's stencil
abbrev pub ink_in : TintAct → Option Inked → Tints
ink_in (Stamp m at) (Some inked) = ink_at inked at
ink_in act stencil = untinted

-- the parts of an act with its stencil
abbrev pub parts_in : ℕ → TintAct → Option Inked → ℕ → World → World
parts_in n act stencil = part n (ink_in act stencil) act

-- the act lies in the world of this side, and there is a stencil exactly for a stamp
abbrev pub FitsInk : ℕ → TintAct → Option Inked → Type 0
FitsInk n (Stamp m at) None = ⊥
FitsInk n (Stamp m at) (Some inked) = FitsAt at inked.size n
FitsInk n act None = TintFits n [] act
FitsInk n act (Some inked) = ⊥

-- a stamp's stencil is drawn of the model that it names; other acts have none
abbrev pub HasInk : List Content → TintAct → Option Inked → Type 0
HasInk models (Stamp m at) None = ⊥
HasInk models (Stamp m at) (Some inked) =
    (model : Content) × (slice_get models m ≡ Some model) × DrawsTints model inked
HasInk models act None = ⊤
HasInk models act (Some inked) = ⊥
