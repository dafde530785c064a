use Rattle.world_core.proofs.Absent.{one_missing}
use Rattle.world_core.proofs.holdings.rest_of.Goals as goal

pub returns-then-not-take_out : goal.returns-then-not-take_out
returns-then-not-take_out c = let a = c.take_out.ensures.absent c.if-not-take_out.true in
    one_missing _ _ c.args.some.now c.loop-n.n-index a.0 c.loop-n-test.true a.1 c.loop-n.invariant a.2
