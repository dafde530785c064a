use Rattle.std.proofs.Common.{arith}
use Rattle.world_core.proofs.Empty.{all_empty, empty_laid, empty_free}
use Rattle.world_core.proofs.entries.Entries.begin.Goals as goal

pub returns-clause-laid : goal.returns-clause-laid
returns-clause-laid c = empty_laid c.args.plan.now c.loop-level.list.items
    (all_empty c.args.plan.now c.loop-level.list.items c.loop-level.level c.cap-cap.result c.buckets-buckets.result
    (omega (arith, c.exponent-levels.ensures.value, c.side.ensures.value)) c.cap-cap.ensures.value c.buckets-buckets.ensures.value
    c.loop-level.invariant.0 c.loop-level.invariant.1)

pub returns-clause-free : goal.returns-clause-free
returns-clause-free c = empty_free c.args.plan.now c.loop-level.list.items
    (all_empty c.args.plan.now c.loop-level.list.items c.loop-level.level c.cap-cap.result c.buckets-buckets.result
    (omega (arith, c.exponent-levels.ensures.value, c.side.ensures.value)) c.cap-cap.ensures.value c.buckets-buckets.ensures.value
    c.loop-level.invariant.0 c.loop-level.invariant.1)
