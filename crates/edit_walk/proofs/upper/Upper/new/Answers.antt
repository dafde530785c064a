use Rattle.edit_walk.proofs.MemoLaws.{none_kept}
use Rattle.edit_walk.proofs.upper.Upper.new.Goals as goal

pub returns : goal.returns
returns g c level e = none_kept _ 512 level e
