use Rattle.plain_text.specs.Parts.{lines}
use Rattle.plain_text.proofs.UnfitLaws.{unfit_once}
use Rattle.history_model.specs.Following.{IsJournalLines}
use Rattle.history_model.proofs.laws.journals_are_refused_at_one_line.Goals as goal

pub returns : goal.returns
returns c = λ text m n first second. unfit_once IsJournalLines (lines text) m n first second
