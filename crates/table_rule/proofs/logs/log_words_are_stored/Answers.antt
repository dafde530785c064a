use Rattle.table_rule.proofs.LogStores.{readies_next, readies_mark}
use Rattle.table_rule.proofs.logs.log_words_are_stored.Goals as goal

pub returns : goal.returns
returns c = record { next = readies_next; mark = readies_mark }
