use Rattle.node_words.proofs.HeldLaws.{children_canonical}
use Rattle.node_words.proofs.laws.held_children_make_canonical_shapes.Goals as goal

pub returns : goal.returns
returns c = children_canonical
