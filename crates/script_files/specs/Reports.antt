-- The report that a run writes, and the first outputs of a run.
use Rattle.std.specs.Prelude.{◌≡◌, ℕ, [], ◌++◌, Option, Some, None, List, ⊤}
use Rattle.vw_io.specs.Outputs.{Named}
use Rattle.vox_read.specs.Contents.{Content}
use Rattle.history_model.specs.Logs.{Log}
use Rattle.report.specs.Reports.{IsReport}
use Rattle.requests.specs.Orders.{Asked}
use Rattle.script_files.specs.Requests.{RunOutputs, texts_written}

-- the report of a history, where one is wanted
abbrev pub ReportIs : Option (List ℕ) → List Content → Log → List ℕ → Type 0
ReportIs None models log text = ⊤
ReportIs (Some name) models log text = IsReport models log text

-- these are first outputs of a run whose sessions had this history. The report is the last one, and
-- is the history's where it is among them
pub record BeginsTexts (asked : Asked) (given : RunOutputs) (log : Log) (outputs : List Named)
    : Type 0 where
  pub report : List ℕ
  pub rest : List Named
  pub parts : outputs ++ rest ≡ texts_written asked given log report
  pub reported : rest ≡ [] → ReportIs asked.report given.models log report
