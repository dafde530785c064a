use Rattle.table_rule.proofs.Opening.{opens}
use Rattle.table_rule.proofs.seats.tables_open.Goals as goal

pub returns : goal.returns
returns c = opens
