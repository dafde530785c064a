use Rattle.history_model.proofs.Telling.{can_be_told}
use Rattle.history_model.proofs.laws.legal_histories_can_be_told.Goals as goal

pub returns : goal.returns
returns c = can_be_told
