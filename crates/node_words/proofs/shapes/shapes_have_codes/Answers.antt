use Rattle.node_words.specs.shapes.ShapeCode.{coded_shape}
use Rattle.node_words.specs.shapes.TreeCode.{coded_tree}
use Rattle.node_words.proofs.shapes.shapes_have_codes.Goals as goal

pub returns-clause-shape : goal.returns-clause-shape
returns-clause-shape c = coded_shape

pub returns-clause-tree : goal.returns-clause-tree
returns-clause-tree c = coded_tree
