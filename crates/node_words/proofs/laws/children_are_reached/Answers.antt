use Rattle.node_words.proofs.HeldLaws.{holds_reaches, reaches_child, child_level}
use Rattle.node_words.proofs.laws.children_are_reached.Goals as goal

pub returns-clause-held : goal.returns-clause-held
returns-clause-held c = holds_reaches

pub returns-clause-child : goal.returns-clause-child
returns-clause-child c = reaches_child

pub returns-clause-level : goal.returns-clause-level
returns-clause-level c = child_level
