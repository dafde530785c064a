use Rattle.world_core.proofs.LowerLaws.{no_children}
use Rattle.world_core.proofs.parts.Parts.leaf.Goals as goal

pub take-requires-clause-children : goal.take-requires-clause-children
take-requires-clause-children c = λ f. no_children c.args.bits f
