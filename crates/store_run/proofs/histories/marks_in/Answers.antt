use Rattle.std.proofs.Common.{refl}
use Rattle.store_run.proofs.Marking.{listed_next}
use Rattle.store_run.proofs.histories.marks_in.Goals as goal

pub loop-mark-preserved : goal.loop-mark-preserved
loop-mark-preserved c =
    listed_next c.args.marks.now c.loop-mark.mark-index c.loop-mark.list.items c.push_some.new.list.items _ _ c.loop-mark.invariant c.loop-mark-test.true
    refl c.in_ok-push_some.ensures
