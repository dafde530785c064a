use Rattle.voxdag_top.proofs.StatusLaws.{said_at}
use Rattle.voxdag_top.proofs.laws.statuses_are_told.Goals as goal

pub returns : goal.returns
returns c = said_at
