use Rattle.core_laws.proofs.OfTints.VersionLaws.{versions_plain}
use Rattle.core_laws.proofs.tints.laws.plain_stores_have_the_cells_of_versions.Goals as goal

pub returns : goal.returns
returns c = versions_plain
