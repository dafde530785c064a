use Rattle.voxdag_top.proofs.VerdictLaws.{not_without_verdict}
use Rattle.voxdag_top.proofs.laws.no_words_lack_a_verdict.Goals as goal

pub returns : goal.returns
returns c = not_without_verdict c.files_have_a_reading.ensures
