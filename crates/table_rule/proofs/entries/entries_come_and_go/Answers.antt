use Rattle.table_rule.proofs.AnyTree.{publishes_ready, frees_any}
use Rattle.table_rule.proofs.entries.entries_come_and_go.Goals as goal

pub returns : goal.returns
returns c = record { add = publishes_ready; free = frees_any }
