use Rattle.measure.proofs.ChangeLaws.{octant_changed}
use Rattle.measure.proofs.differences.ChangedSubject.octant.Goals as goal

pub returns-clause-octant : goal.returns-clause-octant
returns-clause-octant g c test p =
    octant_changed (g.B.Blocks.seen c.args.store.now) (g.B.Blocks.seen c.octant_name-before.new.store) c.args.level c.args.octant _ _ _ _ test
    c.octant_name-before.ensures.seen c.requires.level c.requires.octant c.octant_name-before.ensures.octant c.octant_name-after.ensures.octant p
