-- Why nothing was finished.
use Rattle.std.specs.Prelude.{◌≡◌, Option}
use Rattle.node_words.specs.declared.shapes.names.Name.{Name}
use Rattle.table_rule.specs.LogFacts.{number_seen}
use Rattle.table_rule.specs.Views.{SeatView}
use Rattle.version_log.specs.declared.answers.SureRefused.{SureRefused}
use Rattle.version_log.specs.declared.answers.SureRefused.TheVariants.{LogFull}

-- the log is full, and the root is handed back
abbrev pub RefusesFinish : Option Name → SureRefused → SeatView → Type 0
RefusesFinish root (LogFull back) w = (back ≡ root) × (number_seen w ≡ 65535)
