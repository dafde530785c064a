use Rattle.core_laws.proofs.OfTints.VersionLaws.{versions_stored}
use Rattle.core_laws.proofs.tints.laws.stores_keep_the_tints_of_versions.Goals as goal

pub returns : goal.returns
returns c = versions_stored
