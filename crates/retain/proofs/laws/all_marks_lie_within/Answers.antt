use Rattle.retain.proofs.Lasting.{lie_within}
use Rattle.retain.proofs.laws.all_marks_lie_within.Goals as goal

pub returns : goal.returns
returns c = lie_within
