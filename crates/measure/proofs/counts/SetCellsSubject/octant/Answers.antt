use Rattle.measure.proofs.SubjectLaws.{octant_set}
use Rattle.measure.proofs.counts.SetCellsSubject.octant.Goals as goal

pub returns-clause-octant : goal.returns-clause-octant
returns-clause-octant g c test p =
    octant_set _ c.args.level c.args.octant _ _ test c.requires.level c.requires.octant c.octant_name.ensures.octant p
