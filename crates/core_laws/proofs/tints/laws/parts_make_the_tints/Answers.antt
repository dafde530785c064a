use Rattle.core_laws.proofs.OfTints.PartLaws.{parts_law}
use Rattle.core_laws.proofs.tints.laws.parts_make_the_tints.Goals as goal

pub returns : goal.returns
returns c = parts_law
