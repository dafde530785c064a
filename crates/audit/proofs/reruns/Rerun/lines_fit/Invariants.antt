use Rattle.std.proofs.Common.{◌≡◌, take}
use Rattle.std.specs.List.{AllZip}
use Rattle.conformance.specs.Answers.{LineFits}
use Rattle.audit.proofs.reruns.Rerun.lines_fit.Given as goal

abbrev pub invariant-loop-i : goal.invariant-loop-i
invariant-loop-i g l = record {
  same : l.self ≡ l.fn.self;
  so_far : AllZip (LineFits l.judged l.fn.self.replay.models l.log l.session)
      (take l.i l.script) (take l.i l.transcript);
}
