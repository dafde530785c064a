use Rattle.node_words.proofs.OfShapes.ShapeLaws.{some_cell}
use Rattle.node_words.proofs.shapes.shapes_have_cells.Goals as goal

pub returns : goal.returns
returns c = some_cell
