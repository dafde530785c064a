use Rattle.node_words.proofs.OfDescent.BlockLaws.{children_told, children_clear}
use Rattle.node_words.proofs.descent.blocks.octant_names.Goals as goal

pub returns-in-Some-clause-octants : goal.returns-in-Some-clause-octants
returns-in-Some-clause-octants g c =
    children_told _ _ c.args.level c.args.block _ c.in-Some.name c.in-Some.is c.children_at.ensures.trees c.requires.level c.children_at.ensures.children

pub returns-in-None-clause-octants : goal.returns-in-None-clause-octants
returns-in-None-clause-octants g c = children_clear _ c.args.level c.args.block c.in-None.is
