use Rattle.retain.proofs.Lasting.{keep_last}
use Rattle.retain.proofs.laws.all_marks_keep_the_last.Goals as goal

pub returns : goal.returns
returns c = keep_last
