use Rattle.node_words.proofs.OfContents.CellShapeLaws.{shape_with-none, shape_with-leaf}
use Rattle.node_words.proofs.OfContents.FullShapes.{shape_with-full}
use Rattle.node_words.proofs.contents.some_shapes_are_known.Goals as goal

pub returns-clause-none : goal.returns-clause-none
returns-clause-none c = shape_with-none

pub returns-clause-all : goal.returns-clause-all
returns-clause-all c = shape_with-full

pub returns-clause-leaf : goal.returns-clause-leaf
returns-clause-leaf c = shape_with-leaf
