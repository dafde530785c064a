use Rattle.table_rule.proofs.Readings.{seats_traded}
use Rattle.table_rule.proofs.words.seats_trade.Goals as goal

pub returns : goal.returns
returns c = seats_traded
