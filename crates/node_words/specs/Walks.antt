-- What a walk down from a node tells of a cell of its block.
use Rattle.std.specs.Prelude.{◌≡◌, Bool}
use Rattle.node_words.specs.Cell.{Cell}
use Rattle.node_words.specs.Block.{Block}
use Rattle.node_words.specs.shapes.Shape.{Shape, ShowsCells}

-- the cell is set in this way, in whatever world the shape shows its block of
pub record TellsCell (b : Block) (s : Shape) (c : Cell) (set : Bool) : Type 0 where
  pub told : (cells : Cell → Bool) → ShowsCells b s cells → set ≡ cells c
