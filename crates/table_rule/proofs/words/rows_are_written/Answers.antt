use Rattle.table_rule.proofs.Rows.{row_written}
use Rattle.table_rule.proofs.words.rows_are_written.Goals as goal

pub returns : goal.returns
returns c = row_written
