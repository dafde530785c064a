use Rattle.node_words.proofs.OfShapes.ShapeLaws.{part_some, part_canonical, one_level}
use Rattle.node_words.proofs.shapes.parts_are_canonical.Goals as goal

pub returns-clause-some : goal.returns-clause-some
returns-clause-some c = part_some

pub returns-clause-level : goal.returns-clause-level
returns-clause-level c = part_canonical

pub returns-clause-once : goal.returns-clause-once
returns-clause-once c = one_level
