-- What the command `audit` answers, or is refused for.
use Rattle.std.specs.Prelude.{◌≡◌, ℕ, ◌↔◌, List, [], ◌∷◌, Bool, true, IsTrue, All, Option, Some, None, Result, length, map, get_or, take, drop, Ok, Err, ⊤}
use Rattle.vw_io.specs.Outputs.{Named}
use Rattle.vox_read.specs.Contents.{Content}
use Rattle.vox_read.specs.Files.{ReadsModels}
use Rattle.history_model.specs.Logs.{Log}
use Rattle.history_model.specs.Entries.{HasJournal}
use Rattle.history_model.specs.Journal.{journal_of}
use Rattle.history_model.specs.Refusals.{RefusesJournal}
use Rattle.history_model.specs.declared.reading.JournalFault.TheVariants as journals
use Rattle.node_words.specs.declared.shares.Full.{Full}
use Rattle.script.specs.declared.commands.ScriptLine.{ScriptLine}
use Rattle.script.specs.Fitting.{IsOfText}
use Rattle.transcript.specs.Bounds.{IsLineAnswer}
use Rattle.transcript.specs.Lines.{transcript_of}
use Rattle.transcript.specs.Refusals.{RefusesTranscript}
use Rattle.transcript.specs.declared.answers.LineAnswer.{LineAnswer}
use Rattle.transcript.specs.declared.reading.TranscriptFault.TheVariants as transcripts
use Rattle.audit.specs.Audits.{IsAudited, RefusesAudit, judged_by}
use Rattle.audit.specs.declared.audits.AuditRefused.TheVariants as audits
use Rattle.commands.specs.declared.refusals.NumberedFault.{NumberedFault}
use Rattle.commands.specs.declared.refusals.TranscriptLine.{TranscriptLine}
use Rattle.commands.specs.declared.refusals.TextRefused.{TextRefused}
use Rattle.commands.specs.declared.refusals.TextRefused.TheVariants.{Vox, Journal, Script, Transcript, StoreFull, Memory}
use Rattle.commands.specs.Meanings.{Meaning, BeginsNothing, file_in}
use Rattle.requests.specs.Orders.{AuditAsked}
use Rattle.commands.specs.Inputs.{audit_inputs}
use Rattle.commands.specs.Scripts.{lines_in_history}
use Rattle.commands.specs.Verdicts.{Verdict, Fine, HasScriptFault, HasJournalFault, HasTranscriptFault, JudgesModels}

-- the texts behind that of the VOX file: the journal's, those of the scripts, and those of their
-- transcripts
pub record AuditTexts : Type 0 where
  pub journal : List ℕ
  pub scripts : List (List ℕ)
  pub transcripts : List (List ℕ)

-- of so many scripts
abbrev pub audit_texts : ℕ → List (List ℕ) → AuditTexts
audit_texts n texts = record {
  journal = get_or texts 1 [];
  scripts = take n (drop 2 texts);
  transcripts = drop n (drop 2 texts);
}

-- those of an audit, behind that of the VOX file
abbrev pub texts_audited : AuditAsked → List (List ℕ) → AuditTexts
texts_audited asked texts = audit_texts (length asked.scripts) texts

-- ---- what they say

-- the text is that of a history
pub record IsJournalOf (text : List ℕ) (log : Log) : Type 0 where
  pub told : HasJournal log
  pub is : text ≡ journal_of log

-- the texts are those of these answers
pub record AreTranscriptsOf (texts : List (List ℕ)) (said : List (List LineAnswer)) : Type 0 where
  pub answers : All (All IsLineAnswer) said
  pub are : texts ≡ map transcript_of said

-- the transcripts before that of a number are read, and this is its first line that doesn't fit
pub record IsFirstUnread (texts : List (List ℕ)) (at : TranscriptLine) : Type 0 where
  pub before : List (List LineAnswer)
  pub read : AreTranscriptsOf (take at.script texts) before
  pub text : List ℕ
  pub others : List (List ℕ)
  pub next : drop at.script texts ≡ text ∷ others
  pub unfit : RefusesTranscript (transcripts.Line at.line) text

-- ---- how far they are read

-- the file gives models, and the journal a history
pub record JournalRead (file : List ℕ) (t : AuditTexts) : Type 0 where
  pub models : List Content
  pub gives : ReadsModels file (Ok models)
  pub log : Log
  pub journal : IsJournalOf t.journal log

-- and no script has a fault in the history's world
pub record ScriptsRead (file : List ℕ) (t : AuditTexts) : Type 0 where
  pub begun : JournalRead file t
  pub lines : List (List ScriptLine)
  pub read : lines_in_history begun.log begun.models t.scripts ≡ Ok lines

-- and the transcripts are read
pub record AllRead (file : List ℕ) (t : AuditTexts) : Type 0 where
  pub scripts : ScriptsRead file t
  pub said : List (List LineAnswer)
  pub transcripts : AreTranscriptsOf t.transcripts said

-- ---- what is answered

-- yes exactly where these are the history and the transcripts of one run of the scripts, which held
-- so many last versions alone
pub record AnswersAudit (buckets : Option ℕ) (keep : ℕ) (file : List ℕ) (t : AuditTexts)
    (answer : Bool) : Type 0 where
  pub all : AllRead file t
  pub is : IsTrue answer
      ↔ IsAudited keep (judged_by all.scripts.begun.log.side buckets) all.scripts.begun.models
      all.scripts.begun.log all.scripts.lines all.said

-- and nothing is written
pub record Audited (buckets : Option ℕ) (keep : ℕ) (file : List ℕ) (t : AuditTexts)
    (answer : Bool) (outputs : List Named) : Type 0 where
  pub answers : AnswersAudit buckets keep file t answer
  pub none : outputs ≡ []

-- ---- what is refused

-- the file gives models, and this line of the journal is refused
pub record LacksJournal (file : List ℕ) (t : AuditTexts) (line : ℕ) : Type 0 where
  pub models : List Content
  pub gives : ReadsModels file (Ok models)
  pub first : RefusesJournal (journals.Line line) t.journal

-- the journal gives a history, and this is the first fault of the first script that has one
pub record LacksScript (file : List ℕ) (t : AuditTexts) (at : NumberedFault) : Type 0 where
  pub begun : JournalRead file t
  pub is_of_text : IsOfText at.fault.kind
  pub first : lines_in_history begun.log begun.models t.scripts ≡ Err at

-- no script has a fault, and this is the first line of the first transcript that doesn't fit
pub record LacksTranscript (file : List ℕ) (t : AuditTexts) (at : TranscriptLine) : Type 0 where
  pub scripts : ScriptsRead file t
  pub first : IsFirstUnread t.transcripts at

-- all is read, and the records up to one of them can fill this bucket
pub record FillsAudit (file : List ℕ) (t : AuditTexts) (full : Full) : Type 0 where
  pub all : AllRead file t
  pub fills : RefusesAudit all.scripts.begun.models all.scripts.begun.log (audits.Full full)

-- want of memory says nothing
abbrev pub RefusesAuditing : List ℕ → AuditTexts → TextRefused → Type 0
RefusesAuditing file t (Vox fault) = ReadsModels file (Err fault)
RefusesAuditing file t (Journal line) = LacksJournal file t line
RefusesAuditing file t (Script at) = LacksScript file t at
RefusesAuditing file t (Transcript at) = LacksTranscript file t at
RefusesAuditing file t (StoreFull full) = FillsAudit file t full
RefusesAuditing file t Memory = ⊤
RefusesAuditing file t _ = ⊥

-- ---- what is judged: whether the journal is one, then what the scripts say in its history's
-- world, then whether the transcripts are some

-- the text is that of this history, or of none
abbrev pub FindsLog : List ℕ → Option Log → Type 0
FindsLog text None = (log : Log) → IsJournalOf text log → ⊥
FindsLog text (Some log) = IsJournalOf text log

-- the texts are those of these answers, or of none
abbrev pub FindsAnswers : List (List ℕ) → Option (List (List LineAnswer)) → Type 0
FindsAnswers texts None = (said : List (List LineAnswer)) → AreTranscriptsOf texts said → ⊥
FindsAnswers texts (Some said) = AreTranscriptsOf texts said

abbrev pub verdict_of_answers : Option (List (List LineAnswer)) → Verdict
verdict_of_answers None = HasTranscriptFault
verdict_of_answers (Some said) = Fine

abbrev pub JudgesSaid : List (List ℕ) → Result (List (List ScriptLine)) NumberedFault → Verdict
    → Type 0
JudgesSaid texts (Err at) v = v ≡ HasScriptFault at
JudgesSaid texts (Ok lines) v =
    (said : Option (List (List LineAnswer))) × FindsAnswers texts said
    × (v ≡ verdict_of_answers said)

abbrev pub JudgesLog : AuditTexts → List Content → Option Log → Verdict → Type 0
JudgesLog t models None v = v ≡ HasJournalFault
JudgesLog t models (Some log) v = JudgesSaid t.transcripts (lines_in_history log models t.scripts) v

abbrev pub JudgesLeft : AuditTexts → List Content → Verdict → Type 0
JudgesLeft t models v = (log : Option Log) × FindsLog t.journal log × JudgesLog t models log v

abbrev pub audit_means : AuditAsked → Meaning Bool
audit_means asked = record {
  inputs = audit_inputs asked;
  gives = λ texts answer outputs.
      Audited asked.buckets asked.keep (file_in texts) (texts_audited asked texts) answer outputs;
  begins = BeginsNothing;
  refuses = λ texts r. RefusesAuditing (file_in texts) (texts_audited asked texts) r;
  judges = λ texts v. JudgesModels (JudgesLeft (texts_audited asked texts)) (file_in texts) v;
  journal = true;
}
