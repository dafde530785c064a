use Rattle.tests_sessions.specs.Free.{IsFree}
use Rattle.tests_sessions.proofs.calls.answered.Given as goal

abbrev pub invariant-loop-row : goal.invariant-loop-row
invariant-loop-row g l = IsFree l.world l.s
