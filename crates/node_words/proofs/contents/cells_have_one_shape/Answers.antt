use Rattle.node_words.proofs.OfContents.CellShapeLaws.{shape_with-has, shape_with-canonical, shape_with-only, shape_with-same}
use Rattle.node_words.proofs.contents.cells_have_one_shape.Goals as goal

pub returns-clause-shows : goal.returns-clause-shows
returns-clause-shows c = shape_with-has

pub returns-clause-canonical : goal.returns-clause-canonical
returns-clause-canonical c = shape_with-canonical

pub returns-clause-only : goal.returns-clause-only
returns-clause-only c = shape_with-only

pub returns-clause-same : goal.returns-clause-same
returns-clause-same c = shape_with-same
