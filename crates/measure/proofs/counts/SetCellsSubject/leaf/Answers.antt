use Rattle.measure.proofs.SubjectLaws.{leaf_set}
use Rattle.measure.proofs.counts.SetCellsSubject.leaf.Goals as goal

pub returns-clause-bits : goal.returns-clause-bits
returns-clause-bits g c test p = leaf_set _ _ _ test c.leaf_bits.ensures.bits p
