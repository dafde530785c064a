use Rattle.retain.proofs.Growing.{one_more_by_hand}
use Rattle.retain.proofs.laws.one_more_by_hand_is_one_more.Goals as goal

pub returns : goal.returns
returns c = one_more_by_hand
