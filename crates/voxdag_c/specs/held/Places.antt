-- The numbers that C hands in, as cells and boxes.
use Rattle.std.specs.Prelude.{ℕ, ◌≤◌, Bool, true, false, Option, Some, None}
use Rattle.vw_cell.specs.declared.cells.Cell.{Cell}
use Rattle.vw_cell.specs.declared.boxes.Boxed.{Boxed}
use Rattle.vw_cell.specs.declared.balls.Ball.{Ball}
use Rattle.vox_read.specs.declared.voxels.Voxel.{Voxel}
use Rattle.history_model.specs.Tints.{Tints}
use Rattle.store_run.specs.TintFiles.{its_tint}
use Rattle.voxdag_c.specs.declared.held.places.CPlace.{CPlace}
use Rattle.voxdag_c.specs.declared.held.places.CBox.{CBox}
use Rattle.voxdag_c.specs.declared.held.shown.CShown.{CShown}

abbrev pub cell_of_c_place : CPlace → Cell
cell_of_c_place p = record { x = p.x; y = p.y; z = p.z }

abbrev pub box_of : CBox → Boxed
box_of s = record { at = cell_of_c_place s.at; size = cell_of_c_place s.size }

abbrev pub ball_of : CPlace → ℕ → Ball
ball_of centre radius = record { centre = cell_of_c_place centre; radius = radius }

-- 16 bits are enough for each of the numbers
pub record FitsSixteenBits (c : Cell) : Type 0 where
  pub x : c.x ≤ 65535
  pub y : c.y ≤ 65535
  pub z : c.z ≤ 65535

-- a box, or a place, where there is one
abbrev pub extent_of : Bool → CBox → Option Boxed
extent_of false s = None
extent_of true s = Some (box_of s)

abbrev pub hit_of : Bool → CPlace → Option Cell
hit_of false p = None
hit_of true p = Some (cell_of_c_place p)

-- a cell that can be seen, of which this is the tint: a voxel has its bare sides in the place of
-- its colour
abbrev pub shown_by : (Voxel → ℕ) → Voxel → CShown
shown_by tint v = record { x = v.x; y = v.y; z = v.z; tint = tint v; sides = v.colour }

-- the same of a world with these tints, in which the cell is told from a corner
abbrev pub shown_of : Tints → Cell → Voxel → CShown
shown_of tints corner v = shown_by (its_tint tints corner) v

-- each set cell has tint 1
abbrev pub ones : Tints
ones c = 1
