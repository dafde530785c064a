use Rattle.table_rule.proofs.AnyTree.{lowers_any}
use Rattle.table_rule.proofs.Books.{raises_share}
use Rattle.table_rule.proofs.entries.shares_come_and_go.Goals as goal

pub returns : goal.returns
returns c = record { raise = raises_share; lower = lowers_any }
