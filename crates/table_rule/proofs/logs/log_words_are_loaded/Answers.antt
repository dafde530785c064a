use Rattle.table_rule.proofs.LogLoads.{loads_log, sees_next, seeks_mark, sees_mark}
use Rattle.table_rule.proofs.logs.log_words_are_loaded.Goals as goal

pub returns : goal.returns
returns c = record { word = loads_log; next = sees_next; sought = seeks_mark; mark = sees_mark }
