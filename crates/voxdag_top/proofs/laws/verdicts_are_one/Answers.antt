use Rattle.voxdag_top.proofs.VerdictLaws.{one_verdict}
use Rattle.voxdag_top.proofs.laws.verdicts_are_one.Goals as goal

pub returns : goal.returns
returns c = one_verdict
