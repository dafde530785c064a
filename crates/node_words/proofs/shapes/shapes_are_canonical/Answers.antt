use Rattle.node_words.proofs.OfShapes.ShapeLaws.{same_shape}
use Rattle.node_words.proofs.OfShapes.ShowLaws.{shown_once}
use Rattle.node_words.proofs.shapes.shapes_are_canonical.Goals as goal

pub returns-clause-cells : goal.returns-clause-cells
returns-clause-cells c = same_shape

pub returns-clause-shown : goal.returns-clause-shown
returns-clause-shown c = shown_once
