use Rattle.node_words.proofs.OfShapes.TreeLaws.{level_of, shape_of-child, part_from_stands}
use Rattle.node_words.proofs.shapes.trees_have_shapes.Goals as goal

pub returns-clause-level : goal.returns-clause-level
returns-clause-level c = level_of

pub returns-clause-octant : goal.returns-clause-octant
returns-clause-octant c = shape_of-child

pub returns-clause-part : goal.returns-clause-part
returns-clause-part c t u ne s = part_from_stands ne s
