-- What an act makes of the tints before it, cell by cell. A cell is unset where its tint is 0.
use Rattle.std.specs.Prelude.{◌≡◌, ℕ, ◌≤◌, List, Option, Some, None, if◌then◌else◌}
use Rattle.std.proofs.Common.{zero, suc}
use Rattle.std.specs.List.{slice_get}
use Rattle.vw_cell.specs.declared.cells.Cell.{Cell}
use Rattle.vw_cell.specs.Places.{IsInWorld, is_in_box, is_in_ball}
use Rattle.vox_read.specs.Contents.{Content, colour_at}
use Rattle.history_model.specs.Worlds.{box_at, less, plus, is_in_stamp}
use Rattle.history_model.specs.declared.acts.Act.{Act}
use Rattle.history_model.specs.declared.acts.Act.TheVariants as acts
use Rattle.history_model.specs.declared.acts.TintAct.{TintAct}
use Rattle.history_model.specs.declared.acts.TintAct.TheVariants.{Fill, Erase, Ball, Carve, Copy, Stamp}

-- the tint of each cell
abbrev pub Tints : Type 0
Tints = Cell → ℕ

-- the tints agree on every cell of the world of this side
pub record SameTints (side : ℕ) (t u : Tints) : Type 0 where
  pub each : (c : Cell) → IsInWorld side c → t c ≡ u c

-- the tints of version 0
abbrev pub untinted : Tints
untinted p = 0

-- the tints of a size of places whose least corner is at a place, and 0 elsewhere
abbrev pub tints_from : Cell → Tints → Cell → Tints
tints_from size tints at p = if is_in_box (box_at at size) p then tints (less p at) else 0

-- the tints of a model whose least corner is at a place
abbrev pub stamp_tint : Option Content → Cell → Tints
stamp_tint None at p = 0
stamp_tint (Some model) at p = tints_from model.size (colour_at model.voxels) at p

-- the tints that an act puts over those before it, where they aren't 0: those of a stamp
abbrev pub ink_of : List Content → TintAct → Tints
ink_of models (Stamp m at) = stamp_tint (slice_get models m) at
ink_of models act = untinted

-- a tint where it isn't 0, else the one before
abbrev pub over : ℕ → ℕ → ℕ
over zero before = before
over (suc c) before = suc c

-- what an act makes of the tints before it
abbrev pub tinted : List Content → TintAct → Tints → Tints
tinted models (Fill b c) before p = if is_in_box b p then c else before p
tinted models (Erase b) before p = if is_in_box b p then 0 else before p
tinted models (Ball ball c) before p = if is_in_ball ball p then c else before p
tinted models (Carve ball) before p = if is_in_ball ball p then 0 else before p
tinted models (Copy b to) before p =
    if is_in_box (box_at to b.size) p then before (plus b.at (less p to)) else before p
tinted models (Stamp m at) before p = over (stamp_tint (slice_get models m) at p) (before p)

-- what an edit makes of the tints before it, where an act without a tint counts as one of tint 1
abbrev pub tints_by : List Content → Act → Tints → Tints
tints_by models (acts.Fill b) before p = if is_in_box b p then 1 else before p
tints_by models (acts.Erase b) before p = if is_in_box b p then 0 else before p
tints_by models (acts.Ball ball) before p = if is_in_ball ball p then 1 else before p
tints_by models (acts.Carve ball) before p = if is_in_ball ball p then 0 else before p
tints_by models (acts.Copy b to) before p =
    if is_in_box (box_at to b.size) p then before (plus b.at (less p to)) else before p
tints_by models (acts.Stamp m at) before p =
    if is_in_stamp (slice_get models m) at p then 1 else before p
tints_by models (acts.Tint t) before p = tinted models t before p
tints_by models acts.Undo before p = before p
tints_by models acts.Redo before p = before p

-- a tint that a fill or a ball can give
abbrev pub IsTint : ℕ → Type 0
IsTint c = (1 ≤ c) × (c ≤ 255)

-- the act without its tint
abbrev pub plain_of : TintAct → Act
plain_of (Fill b c) = acts.Fill b
plain_of (Erase b) = acts.Erase b
plain_of (Ball ball c) = acts.Ball ball
plain_of (Carve ball) = acts.Carve ball
plain_of (Copy b to) = acts.Copy b to
plain_of (Stamp m at) = acts.Stamp m at
