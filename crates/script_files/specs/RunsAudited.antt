-- What an audit of what a run left answers.
use Rattle.std.specs.Prelude.{◌≡◌, ℕ, List, Bool, Option, IsTrue, map}
use Rattle.history_model.specs.Journal.{journal_of}
use Rattle.history_model.specs.Logs.{Log}
use Rattle.transcript.specs.Lines.{transcript_of}
use Rattle.transcript.specs.declared.answers.LineAnswer.{LineAnswer}
use Rattle.audit.specs.Audits.{judged_by}
use Rattle.commands.specs.Audits.{AuditTexts, AnswersAudit}
use Rattle.commands.specs.Meanings.{file_in, scripts_in}
use Rattle.script_files.specs.Runs.{IsAccepted}
use Rattle.requests.specs.Orders.{Asked}

-- the journal of a history, the scripts of a run, and its transcripts
abbrev pub texts_left : List (List ℕ) → Log → List (List LineAnswer) → AuditTexts
texts_left texts log transcripts = record {
  journal = journal_of log;
  scripts = scripts_in texts;
  transcripts = map transcript_of transcripts;
}

-- what a run left is never answered no, by its own buckets and with as many versions kept
abbrev pub RunsAreAnsweredYes : Type 0
RunsAreAnsweredYes = (asked : Asked) (texts : List (List ℕ)) (log : Log)
    (transcripts : List (List LineAnswer)) (buckets : Option ℕ) (answer : Bool)
    → IsAccepted asked texts log transcripts
    → (judged_by log.side buckets).buckets ≡ asked.plan.buckets
    → AnswersAudit buckets asked.keep (file_in texts) (texts_left texts log transcripts) answer
    → IsTrue answer
