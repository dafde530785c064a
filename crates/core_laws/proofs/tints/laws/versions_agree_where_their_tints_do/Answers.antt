use Rattle.core_laws.proofs.OfTints.SameVersions.{versions_stored_same, versions_tints_same}
use Rattle.core_laws.proofs.tints.laws.versions_agree_where_their_tints_do.Goals as goal

pub returns-clause-same_tints : goal.returns-clause-same_tints
returns-clause-same_tints c = versions_tints_same

pub returns-clause-same_cells : goal.returns-clause-same_cells
returns-clause-same_cells c = versions_stored_same
