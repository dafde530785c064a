use Rattle.measure.proofs.ChangeLaws.{leaf_changed}
use Rattle.measure.proofs.differences.ChangedSubject.leaf.Goals as goal

pub returns-clause-bits : goal.returns-clause-bits
returns-clause-bits g c test p =
    leaf_changed (g.B.Blocks.seen c.args.store.now) (g.B.Blocks.seen c.leaf_bits-old.new.store) _ _ _ _ test
    c.leaf_bits-old.ensures.seen c.leaf_bits-old.ensures.bits c.leaf_bits-new.ensures.bits p
