use Rattle.history_model.proofs.OnceLaws.{journals_once}
use Rattle.history_model.proofs.laws.journals_tell_one_history.Goals as goal

pub returns : goal.returns
returns c = journals_once
