use Rattle.retain.proofs.OneList.{marks_by_hand}
use Rattle.retain.proofs.laws.all_held_leaves_marks_by_hand.Goals as goal

pub returns : goal.returns
returns c = marks_by_hand
