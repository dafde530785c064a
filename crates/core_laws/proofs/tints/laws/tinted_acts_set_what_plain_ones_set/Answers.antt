use Rattle.core_laws.proofs.OfTints.HasLaws.{has_law}
use Rattle.core_laws.proofs.tints.laws.tinted_acts_set_what_plain_ones_set.Goals as goal

pub returns : goal.returns
returns c = has_law
