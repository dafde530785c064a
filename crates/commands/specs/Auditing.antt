-- What the stages of an audit give.
use Rattle.std.specs.Prelude.{◌≡◌, ℕ, List, [], ◌∷◌, ◌++◌, All, Ok, ⊤}
use Rattle.vox_read.specs.Files.{ReadsModels}
use Rattle.transcript.specs.Bounds.{IsLineAnswer}
use Rattle.transcript.specs.Lines.{transcript_of}
use Rattle.transcript.specs.Refusals.{RefusesTranscript}
use Rattle.transcript.specs.declared.answers.LineAnswer.{LineAnswer}
use Rattle.transcript.specs.declared.reading.TranscriptFault.TheVariants.{Line}
use Rattle.commands.specs.declared.audits.RunLeft.{RunLeft}
use Rattle.commands.specs.declared.refusals.TextRefused.{TextRefused}
use Rattle.commands.specs.declared.refusals.TextRefused.TheVariants.{Transcript, Memory}
use Rattle.commands.specs.Audits.{AuditTexts, IsJournalOf, AreTranscriptsOf, IsFirstUnread}
use Rattle.commands.specs.Scripts.{lines_in_history}

-- no text has a fault, and this is what they say
pub record IsLeft (file : List ℕ) (t : AuditTexts) (left : RunLeft) : Type 0 where
  pub gives : ReadsModels file (Ok left.models)
  pub journal : IsJournalOf t.journal left.history
  pub read : lines_in_history left.history left.models t.scripts ≡ Ok left.scripts.items
  pub transcripts : AreTranscriptsOf t.transcripts left.transcripts.items

-- one more transcript was read, and its answers stand behind those before it
pub record AddsTranscript (text : List ℕ) (old new : List (List LineAnswer)) : Type 0 where
  pub answers : List LineAnswer
  pub fit : All IsLineAnswer answers
  pub is : text ≡ transcript_of answers
  pub kept : new ≡ old ++ answers ∷ []

-- what a refusal says of the transcript of this number, and of all of them; want of memory says
-- nothing
abbrev pub RefusesNextTranscript : ℕ → List ℕ → TextRefused → Type 0
RefusesNextTranscript number text (Transcript at) =
    (at.script ≡ number) × RefusesTranscript (Line at.line) text
RefusesNextTranscript number text Memory = ⊤
RefusesNextTranscript number text _ = ⊥

abbrev pub RefusesTranscripts : List (List ℕ) → TextRefused → Type 0
RefusesTranscripts texts (Transcript at) = IsFirstUnread texts at
RefusesTranscripts texts Memory = ⊤
RefusesTranscripts texts _ = ⊥
