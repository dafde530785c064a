use Rattle.table_rule.proofs.TurnSteps.{takes, leaves}
use Rattle.table_rule.proofs.turns.turns_come_and_go.Goals as goal

pub returns : goal.returns
returns c = record { take = takes; give_back = leaves }
