use Rattle.edit_walk.proofs.MemoLaws.{none_kept}
use Rattle.colour.proofs.memos.Recent.new.Goals as goal

pub returns : goal.returns
returns g c level e = none_kept _ 256 level e
