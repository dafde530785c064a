use Rattle.conformance.proofs.Refusals.{never_full}
use Rattle.conformance.proofs.laws.full_only_where_possible.Goals as goal

pub returns : goal.returns
returns c = never_full
