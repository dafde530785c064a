-- What an edit of the cells of a ball that lie in a box makes of one block.
use Rattle.std.specs.Prelude.{ℕ, ◌≤◌, Bool, List, Option, ◌&&◌, if◌then◌else◌}
use Rattle.vw_cell.specs.declared.cells.Cell.{Cell}
use Rattle.vw_cell.specs.declared.balls.Ball.{Ball}
use Rattle.vw_cell.specs.declared.boxes.Boxed.{Boxed}
use Rattle.vw_cell.specs.Places.{is_in_ball, is_in_box, LiesIn}
use Rattle.node_words.specs.declared.shapes.names.Name.{Name}
use Rattle.node_words.specs.shapes.Tree.{Tree}
use Rattle.node_words.proofs.HeldLaws.{Keeps}
use Rattle.node_words.specs.contents.CellShapes.{Cells}
use Rattle.edit_walk.specs.cells.Paints.{Paints, paints_last}
use Rattle.edit_walk.specs.cells.Tasks.{OneEach}
use Rattle.edit_walk.specs.cells.Worlds.{cells_from}

-- the cell is one of the ball's in the box
abbrev pub is_in_clip : Ball → Boxed → Cell → Bool
is_in_clip ball within p = is_in_box within p && is_in_ball ball p

-- the world with these cells set or cleared
abbrev pub clipped : Bool → Ball → Boxed → (Cell → Bool) → Cell → Bool
clipped set ball within before p = if is_in_clip ball within p then set else before p

-- over these trees the block at this place of the world gets these cells, where those of the ball
-- in the box are set or cleared
pub record MakesClip (old : Option Name) (ball : Ball) (within : Boxed) (at : Cell) (set : Bool)
    (base : List Tree) (level : ℕ) (cells : Cells) : Type 0 where
  pub small : level ≤ 10
  pub inside : LiesIn 4096 (record { level = level; at = at })
  pub paints : Paints base level old set (cells_from at (is_in_clip ball within)) cells

pub clip_lasts : (old : Option Name) (ball : Ball) (within : Boxed) (at : Cell) (set : Bool)
    (base more : List Tree) (level : ℕ) (cells : Cells) → OneEach more → Keeps base more
    → MakesClip old ball within at set base level cells
    → MakesClip old ball within at set more level cells
clip_lasts old ball within at set base more level cells one k m = record {
  small = m.small;
  inside = m.inside;
  paints = paints_last base more level old set (cells_from at (is_in_clip ball within)) cells one k
      m.paints;
}
