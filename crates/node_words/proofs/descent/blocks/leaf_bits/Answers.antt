use Rattle.node_words.proofs.OfDescent.BlockLaws.{leaf_told, leaf_clear}
use Rattle.node_words.proofs.descent.blocks.leaf_bits.Goals as goal

pub returns-in-Some-clause-bits : goal.returns-in-Some-clause-bits
returns-in-Some-clause-bits g c = leaf_told _ _ c.in-Some.name _ c.in-Some.is c.bits_at.ensures.bits

pub returns-in-None-clause-bits : goal.returns-in-None-clause-bits
returns-in-None-clause-bits g c = leaf_clear _ _ c.in-None.is
