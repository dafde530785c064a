use Rattle.measure.proofs.SubjectLaws.{leaves_set}
use Rattle.measure.proofs.counts.SetCellsSubject.leaves.Goals as goal

pub returns-clause-leaves : goal.returns-clause-leaves
returns-clause-leaves g c test p =
    leaves_set _ _ c.octant_bits.result test c.octant_bits.ensures.leaves p
