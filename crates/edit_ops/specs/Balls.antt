-- What an edit of a ball makes of one block.
use Rattle.std.specs.Prelude.{◌≡◌, ℕ, ◌≤◌, Bool, List, Option, true, false}
use Rattle.vw_cell.specs.declared.cells.Cell.{Cell}
use Rattle.vw_cell.specs.declared.balls.Ball.{Ball}
use Rattle.vw_cell.specs.Counts.{cell_at}
use Rattle.vw_cell.specs.Places.{is_in_ball, LiesIn}
use Rattle.node_words.specs.declared.shapes.names.Name.{Name}
use Rattle.node_words.specs.shapes.Tree.{Tree}
use Rattle.history_model.specs.declared.acts.Act.{Act}
use Rattle.history_model.specs.declared.acts.Act.TheVariants.{Ball as Bulge, Carve}
use Rattle.node_words.proofs.HeldLaws.{Keeps}
use Rattle.node_words.specs.contents.CellShapes.{Cells, SameIn, no_cells, all_cells}
use Rattle.edit_walk.specs.cells.Paints.{Paints, paints_last}
use Rattle.edit_walk.specs.cells.Tasks.{Making, OneEach}
use Rattle.edit_walk.specs.cells.Worlds.{cells_from}
use Rattle.edit_ops.specs.declared.balls.BallTask.{BallTask}
use Rattle.edit_ops.specs.declared.balls.Reach.{Reach}
use Rattle.edit_ops.specs.declared.balls.Reach.TheVariants.{Within, Beyond}

-- the act that sets or clears the cells of a ball
abbrev pub ball_act : Bool → Ball → Act
ball_act true b = Bulge b
ball_act false b = Carve b

-- what is told of the block at this place is right: no cell of it is the ball's where its nearest
-- place lies beyond, and all are where its farthest lies within
pub record IsTold (ball : Ball) (at : Cell) (level : ℕ) (near far : Reach) : Type 0 where
  pub none : near ≡ Beyond → SameIn level (cells_from at (is_in_ball ball)) no_cells
  pub all : far ≡ Within → SameIn level (cells_from at (is_in_ball ball)) all_cells

-- over these trees the block at this place of the world gets these cells, where those of the ball
-- are set or cleared
pub record MakesBall (old : Option Name) (ball : Ball) (at : Cell) (set : Bool) (near far : Reach)
    (base : List Tree) (level : ℕ) (cells : Cells) : Type 0 where
  pub small : level ≤ 10
  pub inside : LiesIn 4096 (record { level = level; at = at })
  pub told : IsTold ball at level near far
  pub paints : Paints base level old set (cells_from at (is_in_ball ball)) cells

-- the same of a task
abbrev pub makes_ball : BallTask → Making
makes_ball task = MakesBall task.old task.ball task.at task.set task.near task.far

-- the task of the whole world, of which nothing is told
abbrev pub world_task : Option Name → Ball → Bool → BallTask
world_task old ball set = record {
  old = old;
  ball = ball;
  at = cell_at 0 0 0;
  set = set;
  near = Within;
  far = Beyond;
}

pub ball_lasts : (old : Option Name) (ball : Ball) (at : Cell) (set : Bool) (near far : Reach)
    (base more : List Tree) (level : ℕ) (cells : Cells) → OneEach more → Keeps base more
    → MakesBall old ball at set near far base level cells
    → MakesBall old ball at set near far more level cells
ball_lasts old ball at set near far base more level cells one k m = record {
  small = m.small;
  inside = m.inside;
  told = m.told;
  paints = paints_last base more level old set (cells_from at (is_in_ball ball)) cells one k
      m.paints;
}
