use Rattle.table_rule.proofs.LogTurnSteps.{takes_log, leaves_log}
use Rattle.table_rule.proofs.logs.log_turns_come_and_go.Goals as goal

pub returns : goal.returns
returns c = record { take = takes_log; give_back = leaves_log }
