use Rattle.retain.proofs.Growing.{one_more_record}
use Rattle.retain.proofs.laws.one_more_record_pushes_one_out.Goals as goal

pub returns : goal.returns
returns c = one_more_record
