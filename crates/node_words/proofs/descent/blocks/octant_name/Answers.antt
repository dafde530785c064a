use Rattle.node_words.proofs.OfDescent.BlockLaws.{child_told}
use Rattle.node_words.proofs.descent.blocks.octant_name.Goals as goal

pub returns-in-Some-clause-octant : goal.returns-in-Some-clause-octant
returns-in-Some-clause-octant g c =
    child_told _ _ c.args.level c.args.block _ c.in-Some.name c.args.octant c.in-Some.is c.child_at.ensures.trees c.requires.level c.child_at.ensures.child
