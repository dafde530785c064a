use Rattle.audit.proofs.Showing.{counts_are_enough}
use Rattle.audit.proofs.laws.counts_are_enough.Goals as goal

pub returns : goal.returns
returns c = counts_are_enough
