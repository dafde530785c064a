use Rattle.table_rule.proofs.Loads.{readies}
use Rattle.table_rule.proofs.UsedSlots.{raises_used}
use Rattle.table_rule.proofs.turns.words_are_stored.Goals as goal

pub returns : goal.returns
returns c = record { key = readies; used = raises_used }
