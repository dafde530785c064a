use Rattle.retain.proofs.OneList.{one_list}
use Rattle.retain.proofs.laws.all_marks_are_one_list.Goals as goal

pub returns : goal.returns
returns c = one_list
