-- What one line makes of what its session has seen and done. This is what a responder of a session
-- has to show, line by line.
use Rattle.std.specs.Prelude.{◌≡◌, ℕ, ◌<◌, ◌≤◌, Bool, true, List, ◌++◌, length, All, AllPairs, ⊤}
use Rattle.std.specs.List.{AllZip, Contains}
use Rattle.history_model.specs.Logs.{suits_tints}
use Rattle.script.specs.declared.commands.Command.{Command}
use Rattle.script.specs.declared.commands.Command.TheVariants.{Edit}
use Rattle.script.specs.declared.commands.ScriptLine.{ScriptLine}
use Rattle.transcript.specs.declared.answers.Answer.TheVariants as answers
use Rattle.transcript.specs.declared.answers.LineAnswer.{LineAnswer}
use Rattle.conformance.specs.Agreeing.{InOrder}
use Rattle.conformance.specs.Answers.{Answers, ExtendsLog}
use Rattle.conformance.specs.Passes.{IsLooked, PassSoFar}
use Rattle.conformance.specs.Running.{line_numbers}
use Rattle.conformance.specs.Shown.{SameItems, accepted_by, accepted_in, forgotten_by, forgotten_in}
use Rattle.conformance.specs.scripts.Keeping.{MadeAndMet}
use Rattle.conformance.specs.sessions.SessionViews.{SessionOf, SessionView, SeesSuited, history_seen}
use Rattle.conformance.specs.sessions.Fallen.{LineMarks, OwnMarks}
use Rattle.conformance.specs.sessions.Notes.{LineNotes, LinesNote}
use Rattle.conformance.specs.sessions.Ran.{IsAnswered}

-- the command's change, where it has one, is tinted exactly where cells have tints, or it is an
-- undo or a redo
abbrev pub SuitsCommand : Bool → Command → Type 0
SuitsCommand tint (Edit act once) = suits_tints tint act ≡ true
SuitsCommand tint _ = ⊤

-- the session's own marks are by earlier lines
abbrev pub AreEarlier : SessionView → ℕ → Type 0
AreEarlier s line = All (λ m. m.line < line) s.marks

-- the line is answered at the length of what the session has seen then, which goes on from what it
-- saw; its own records and marks grow by just what was accepted and by the version that fell out
-- then; what was made and met is for the line; and where what was seen suits the world, the answer
-- fits it, and rests on versions that the session found
pub record AnswersLine (of : SessionOf) (l : ScriptLine) (old new : SessionView)
    (a : LineAnswer) : Type 0 where
  pub same_line : a.line ≡ l.line
  pub newest : a.at ≡ length new.log.records
  pub goes_on : ExtendsLog old.log new.log
  pub later : a.answer ≡ answers.Done → length old.log.records < a.at
  pub unseen : (base : ℕ) → a.answer ≡ answers.Stale base → length old.log.records ≤ base
  pub found : All (Contains new.found) old.found
  pub records : new.records ≡ accepted_by of.number l.line l.command a.at a.answer ++ old.records
  pub marks : LineMarks of.keep (accepted_by of.number l.line l.command a.at a.answer)
      (forgotten_by of.number l.line a.at a.answer ++ old.marks) new
  pub fits : SeesSuited of new → Answers of.plan of.models (history_seen of new)
      (IsLooked new.found new.marks l.line a.at) of.number l.line a.at l.command a.answer
  pub notes : LineNotes of.plan of.models new.log.records (length old.log.records) l a old.noted
      new.noted

-- the lines of a session so far
pub record SessionSoFar (of : SessionOf) (script : List ScriptLine) (answers : List LineAnswer)
    (before : MadeAndMet)
    (s : SessionView) : Type 0 where
  pub lines : AllZip (IsAnswered (length s.log.records)) script answers
  pub moments : AllPairs InOrder answers
  pub accepted : SameItems s.records (accepted_in of.number script answers)
  pub suit : All (λ c. suits_tints of.tint c.entry.act ≡ true) s.records
  pub marks : OwnMarks of.keep s (forgotten_in of.number script answers)
  pub by : All (λ m. Contains (line_numbers script) m.line) s.marks
  pub pass : SeesSuited of s → PassSoFar of.plan of.models of.number script answers
      (history_seen of s) s.found s.records s.marks
  pub notes : LinesNote of.plan of.models s.log.records 0 script answers before s.noted
