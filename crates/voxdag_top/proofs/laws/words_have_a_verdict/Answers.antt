use Rattle.voxdag_top.proofs.VerdictLaws.{some_verdict}
use Rattle.voxdag_top.proofs.laws.words_have_a_verdict.Goals as goal

pub returns : goal.returns
returns c = some_verdict c.files_have_a_reading.ensures
