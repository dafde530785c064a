use Rattle.core_laws.proofs.OfTints.TintLaws.{stored_tint}
use Rattle.core_laws.proofs.tints.laws.stored_tints_are_read.Goals as goal

pub returns : goal.returns
returns c = stored_tint
