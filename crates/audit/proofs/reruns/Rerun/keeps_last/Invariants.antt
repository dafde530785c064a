use Rattle.audit.proofs.Keeping.{KeepSoFar}
use Rattle.audit.proofs.reruns.Rerun.keeps_last.Given as goal

abbrev pub invariant-loop-version : goal.invariant-loop-version
invariant-loop-version g l = KeepSoFar l.keep l.self.table.items l.version
