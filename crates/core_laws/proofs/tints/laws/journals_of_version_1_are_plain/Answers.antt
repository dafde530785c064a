use Rattle.core_laws.proofs.OfTints.VersionLaws.{told_plain}
use Rattle.core_laws.proofs.tints.laws.journals_of_version_1_are_plain.Goals as goal

pub returns : goal.returns
returns c = told_plain
