use Rattle.table_rule.proofs.AnyTree.{peeks_any}
use Rattle.table_rule.proofs.turns.held_words_are_read.Goals as goal

pub returns : goal.returns
returns c = peeks_any
