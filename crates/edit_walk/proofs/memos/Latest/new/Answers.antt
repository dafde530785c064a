use Rattle.edit_walk.proofs.MemoLaws.{none_kept}
use Rattle.edit_walk.proofs.memos.Latest.new.Goals as goal

pub returns : goal.returns
returns g c level e = none_kept _ 2048 level e
