use Rattle.core_laws.proofs.OfTints.VersionLaws.{versions_plainly_tinted}
use Rattle.core_laws.proofs.tints.laws.plain_versions_have_tint_1.Goals as goal

pub returns : goal.returns
returns c = versions_plainly_tinted
