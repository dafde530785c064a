-- What a stamp in tints makes of one block of a plane.
use Rattle.std.specs.Prelude.{◌≡◌, ℕ, ◌+◌, ◌≤◌, ◌<◌, Option, List}
use Rattle.vw_cell.specs.declared.cells.Cell.{Cell}
use Rattle.vw_cell.specs.Counts.{cell_at}
use Rattle.vw_cell.specs.Places.{LiesIn}
use Rattle.node_words.specs.declared.shapes.names.Name.{Name}
use Rattle.node_words.specs.shapes.Shape.{has}
use Rattle.node_words.specs.shapes.Tree.{Tree, shape_of}
use Rattle.node_words.specs.contents.CellShapes.{Cells, SameIn}
use Rattle.edit_walk.specs.cells.Paints.{IsOld, old_lasts}
use Rattle.edit_walk.specs.cells.Tasks.{Making, Lasts}
use Rattle.edit_walk.specs.cells.Worlds.{cells_from}
use Rattle.history_model.specs.Planes.{tells}
use Rattle.colour.specs.declared.stamps.InkTask.{InkTask}
use Rattle.colour.specs.declared.stamps.InkPlanes.{InkPlanes}
use Rattle.colour.specs.Inks.{Inked, ink_at}
use Rattle.colour.specs.Walks.{ink_edit}

-- the cells from a place on whose ink tells in a plane, the model's least corner being at `place`
abbrev pub ink_cells : Inked → Cell → ℕ → Cell → Cells
ink_cells inked place plane at = cells_from at (λ p. tells plane (ink_at inked place p))

-- what becomes of the cells from a place on
abbrev pub cells_inked : Inked → Cell → ℕ → Cell → Cells → Cells
cells_inked inked place plane at cells = λ x y z.
    ink_edit (ink_at inked place) plane (cell_at (at.x + x) (at.y + y) (at.z + z)) (cells x y z)

-- over these trees the block of level `own` at this place of the plane has the model's tints
pub record MakesInk (old : Option Name) (inked : Inked) (place at : Cell) (plane own : ℕ)
    (base : List Tree) (level : ℕ) (cells : Cells) : Type 0 where
  pub same : level ≡ own
  pub small : level ≤ 10
  pub some : plane < 9
  pub inside : LiesIn 4096 (record { level = level; at = at })
  pub stands : (place.x ≤ 4096) × (place.y ≤ 4096) × (place.z ≤ 4096)
  pub tree : Tree
  pub is_old : IsOld base level tree old
  pub shows : SameIn level cells (cells_inked inked place plane at (has level (shape_of tree)))

abbrev pub makes_ink : InkTask → Making
makes_ink t = MakesInk t.old t.stencil.now t.place.now t.at t.plane t.level

pub ink_lasts : Lasts makes_ink
ink_lasts task base more level cells one k m = record {
  same = m.same;
  small = m.small;
  some = m.some;
  inside = m.inside;
  stands = m.stands;
  tree = m.tree;
  is_old = old_lasts base more level m.tree task.old one k m.is_old;
  shows = m.shows;
}

-- the task of a plane whose old block this is
abbrev pub ink_task : InkPlanes → ℕ → Option Name → InkTask
ink_task p k old = record {
  old = old;
  stencil = p.stencil;
  place = p.place;
  at = cell_at 0 0 0;
  plane = k;
  level = p.level;
}
