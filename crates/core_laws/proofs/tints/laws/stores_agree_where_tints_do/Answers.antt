use Rattle.core_laws.proofs.OfTints.AgreeLaws.{stored_same, tints_same}
use Rattle.core_laws.proofs.tints.laws.stores_agree_where_tints_do.Goals as goal

pub returns-clause-same_cells : goal.returns-clause-same_cells
returns-clause-same_cells c = stored_same

pub returns-clause-same_tints : goal.returns-clause-same_tints
returns-clause-same_tints c = tints_same
