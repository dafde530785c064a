-- Which cells of a store an edit may make of those before it.
use Rattle.std.specs.Prelude.{◌≡◌, ℕ, ◌/◌, ◌%◌, ◌<◌, Bool, List, ⊤}
use Rattle.std.proofs.Common.{zero, suc}
use Rattle.vw_cell.specs.declared.cells.Cell.{Cell}
use Rattle.vw_cell.specs.Counts.{cell_at}
use Rattle.vw_cell.specs.Places.{IsInWorld}
use Rattle.vox_read.specs.Contents.{Content}
use Rattle.history_model.specs.declared.acts.Act.{Act}
use Rattle.history_model.specs.Worlds.{World}
use Rattle.history_model.specs.Tints.{Tints}
use Rattle.history_model.specs.Parts.{in_plane, stamped_in, stamp_half}
use Rattle.history_model.specs.Stores.{edited_in}
use Rattle.history_model.specs.declared.acts.TintAct.{TintAct}
use Rattle.history_model.specs.declared.acts.TintAct.TheVariants.{Stamp}
use Rattle.history_model.specs.declared.parts.CellSource.{CellSource}
use Rattle.history_model.specs.declared.parts.CellSource.TheVariants.{Fixed, Read}

-- in the store of this side, the cells after are just those that the edit makes of the cells before
pub record MayMake (side : ℕ) (models : List Content) (act : Act)
    (before after : World) : Type 0 where
  pub each : (q : Cell) → IsInWorld side q → after q ≡ edited_in side models act before q

-- what a test of cells answers is whether the cell is set in the world
pub record TellsWorld (answers : Cell → Bool → Type 0) (w : World) : Type 0 where
  pub each : (q : Cell) (r : Bool) → answers q r → r ≡ w q

-- the cell after is as the edit makes it
abbrev pub IsMadeAt : ℕ → List Content → Act → World → World → Cell → Type 0
IsMadeAt side models act before after q = after q ≡ edited_in side models act before q

-- the same of all cells of a row, and of a layer, below a place
pub record RowIsMade (side : ℕ) (models : List Content) (act : Act) (before after : World)
    (y z below : ℕ) : Type 0 where
  pub each : (x : ℕ) → x < below → IsMadeAt side models act before after (cell_at x y z)

pub record LayerIsMade (side : ℕ) (models : List Content) (act : Act) (before after : World)
    (z below : ℕ) : Type 0 where
  pub each : (y : ℕ) → y < below → RowIsMade side models act before after y z side

pub record LayersAreMade (side : ℕ) (models : List Content) (act : Act) (before after : World)
    (below : ℕ) : Type 0 where
  pub each : (z : ℕ) → z < below → LayerIsMade side models act before after z side

-- what an edit makes of a cell, told for all worlds before it: whether it is set, or which cell's
-- state it has
abbrev pub IsCellSource : (World → World) → Cell → CellSource → Type 0
IsCellSource edit q (Fixed set) = (w : World) → edit w q ≡ set
IsCellSource edit q (Read p) = (w : World) → edit w q ≡ w p

-- the cell that it reads, where there is one, lies in the world of this side
abbrev pub ReadsIn : ℕ → CellSource → Type 0
ReadsIn side (Fixed set) = ⊤
ReadsIn side (Read p) = IsInWorld side p

-- the plane in which part k of an act is made, and what it makes of that plane's cells
abbrev pub plane_of : TintAct → ℕ → ℕ
plane_of (Stamp m at) zero = 0
plane_of (Stamp m at) (suc k) = suc (k / 2)
plane_of act k = k

abbrev pub stamp_edit : Tints → ℕ → World → World
stamp_edit ink zero = stamped_in 0 ink
stamp_edit ink (suc k) = stamp_half (suc (k / 2)) (k % 2) ink

abbrev pub part_edit : Tints → TintAct → ℕ → World → World
part_edit ink (Stamp m at) k = stamp_edit ink k
part_edit ink act k = in_plane ink act k
