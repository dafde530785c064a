use Rattle.std.proofs.Common.{◌≡◌, take}
use Rattle.conformance.specs.Agreeing.{SessionsAgree}
use Rattle.audit.proofs.reruns.Rerun.each_fits.Given as goal

abbrev pub invariant-loop-i : goal.invariant-loop-i
invariant-loop-i g l = record {
  same : l.self ≡ l.fn.self;
  so_far : SessionsAgree l.judged l.fn.self.replay.models l.log 0
      (take l.i l.scripts) (take l.i l.transcripts);
}
