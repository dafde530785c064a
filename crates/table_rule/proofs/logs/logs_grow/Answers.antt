use Rattle.table_rule.proofs.Appending.{appends_record}
use Rattle.table_rule.proofs.Forgetting.{forgets_version}
use Rattle.table_rule.proofs.logs.logs_grow.Goals as goal

pub returns : goal.returns
returns c = record { append = appends_record; forget = forgets_version }
