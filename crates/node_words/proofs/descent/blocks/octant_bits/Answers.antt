use Rattle.node_words.proofs.OfDescent.BlockLaws.{bits_told, bits_clear}
use Rattle.node_words.proofs.descent.blocks.octant_bits.Goals as goal

pub returns-in-Some-clause-leaves : goal.returns-in-Some-clause-leaves
returns-in-Some-clause-leaves g c = bits_told _ _ c.in-Some.name _ c.in-Some.is c.leaves_at.ensures.leaves

pub returns-in-None-clause-leaves : goal.returns-in-None-clause-leaves
returns-in-None-clause-leaves g c = bits_clear _ _ c.in-None.is
