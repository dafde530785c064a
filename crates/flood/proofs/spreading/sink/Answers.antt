use Rattle.std.proofs.Common.{arith, false}
use Rattle.flood.proofs.SpreadLaws.{grows_itself, grows_on, step_down, longer_down, clear_is_run}
use Rattle.flood.proofs.spreading.sink.Goals as goal

pub loop-by-init : goal.loop-by-init
loop-by-init c =
    record { some = omega arith; grows = grows_itself _ _; runs = clear_is_run false c.args.clear }

pub loop-by-preserved : goal.loop-by-preserved
loop-by-preserved c = record {
  some = omega arith;
  grows = grows_on _ _ _ _ c.loop-by.invariant.grows
      (step_down c.args.clear c.loop-by.word c.loop-by.runs c.loop-by.by
      (omega arith) c.loop-by.invariant.runs);
  runs = longer_down c.args.clear c.loop-by.runs c.loop-by.by
      (omega arith) c.loop-by.invariant.runs;
}
