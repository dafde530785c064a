use Rattle.core_laws.proofs.OfTints.VersionLaws.{versions_set}
use Rattle.core_laws.proofs.tints.laws.tints_tell_the_cells_of_versions.Goals as goal

pub returns : goal.returns
returns c = versions_set
