-- What an audit of a journal, scripts and transcripts answers.
use Rattle.std.specs.Prelude.{ℕ, ◌^◌, List, replicate, Option, Some, None, ⊤}
use Rattle.history_model.specs.Contents.{Content}
use Rattle.history_model.specs.declared.histories.Mark.{Mark}
use Rattle.history_model.specs.declared.histories.Record.{Record}
use Rattle.history_model.specs.Logs.{Log, IsLegal, SuitsTints}
use Rattle.node_words.specs.Plans.{Layout, usual_buckets}
use Rattle.script.specs.declared.commands.ScriptLine.{ScriptLine}
use Rattle.transcript.specs.declared.answers.LineAnswer.{LineAnswer}
use Rattle.retain.specs.Retained.{KeepsLast}
use Rattle.conformance.specs.Agreeing.{AgreesKeeping}
use Rattle.store_run.specs.Replaying.{MayFillAlong, replay_plan}
use Rattle.audit.specs.declared.audits.AuditRefused.{AuditRefused}
use Rattle.audit.specs.declared.audits.AuditRefused.TheVariants as refusals

-- The history is legal, its acts are tinted exactly where it is coloured, it keeps its last `keep`
-- versions alone, or all with 0, and agrees with the scripts and their transcripts, which show just
-- it. A run of scripts promises the same of what it gives.
pub record IsAudited (keep : ℕ) (p : Layout) (models : List Content) (log : Log)
    (scripts : List (List ScriptLine)) (transcripts : List (List LineAnswer)) : Type 0 where
  pub legal : IsLegal (2 ^ p.side) models log
  pub suits : SuitsTints log
  pub last : KeepsLast keep log
  pub agrees : AgreesKeeping keep p models log scripts transcripts

-- the plan by whose buckets a transcript's full bucket is judged: the usual ones, or so many on
-- each level. Its cap plays no part
abbrev pub judged_by : ℕ → Option ℕ → Layout
judged_by side None = record { side = side; buckets = usual_buckets; cap = 128 }
judged_by side (Some buckets) =
    record { side = side; buckets = replicate 11 buckets; cap = 128 }

-- what a refusal says: want of memory says nothing
abbrev pub RefusesAlong : Layout → List Content → List Mark → List Record → AuditRefused
    → Type 0
RefusesAlong p models marks records (refusals.Full full) = MayFillAlong p models marks records full
RefusesAlong p models marks records refusals.Memory = ⊤

abbrev pub RefusesAudit : List Content → Log → AuditRefused → Type 0
RefusesAudit models log refused =
    RefusesAlong (replay_plan log.side) models log.marks log.records refused
