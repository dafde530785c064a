-- What the run of one session leaves, and what a closed world tells of all sessions.
use Rattle.std.specs.Prelude.{◌≡◌, ℕ, ◌+◌, ◌^◌, ◌≤◌, Bool, true, List, [], ◌∷◌, ◌++◌, length, All, AllPairs, ⊤}
use Rattle.std.specs.List.{AllZip}
use Rattle.history_model.specs.Contents.{Content}
use Rattle.history_model.specs.declared.histories.Mark.{Mark}
use Rattle.history_model.specs.Logs.{Log, IsLegal, suits_tints}
use Rattle.node_words.specs.shapes.Shape.{Shape}
use Rattle.node_words.specs.Held.{Wanted}
use Rattle.node_words.specs.Plans.{Layout}
use Rattle.script.specs.declared.commands.ScriptLine.{ScriptLine}
use Rattle.transcript.specs.declared.answers.LineAnswer.{LineAnswer}
use Rattle.conformance.specs.Agreeing.{InOrder}
use Rattle.conformance.specs.Answers.{LineFits, ExtendsLog}
use Rattle.conformance.specs.Passes.{Found}
use Rattle.conformance.specs.Saves.{saved_in}
use Rattle.conformance.specs.Shown.{Accepted, SameItems, numbered, accepted_in, forgotten_in}
use Rattle.conformance.specs.scripts.Keeping.{MadeAndMet, HaveEnough}
use Rattle.conformance.specs.sessions.SessionViews.{SessionOf, SessionView, SeesSuited, MayTint, log_as, IsStill, AllowsWhole, none_noted, session_keeping}
use Rattle.conformance.specs.sessions.Fallen.{OwnMarks}
use Rattle.conformance.specs.sessions.Notes.{LinesNote}

-- the answer is one to this line, at a moment that was seen
pub record IsAnswered (n : ℕ) (l : ScriptLine) (a : LineAnswer) : Type 0 where
  pub same_line : a.line ≡ l.line
  pub within : a.at ≤ n

-- the session of this number ran its script: each command has an answer, in order, and moments are
-- ordered; over whatever whole history the session's view allows, each answer fits; the session's
-- own records and marks are those of its accepted lines, and the marks those of versions that fell
-- out, too; its own records suit the world; line by line, what was made and met; and where what it
-- saw suits the world, what it saved are versions that it has seen
pub record SessionRan (of : SessionOf) (script : List ScriptLine) (answers : List LineAnswer)
    (before : MadeAndMet) (s : SessionView) : Type 0 where
  pub lines : AllZip (IsAnswered (length s.log.records)) script answers
  pub moments : AllPairs InOrder answers
  pub fit : (whole : Log) → AllowsWhole of s whole
      → AllZip (LineFits of.plan of.models whole of.number) script answers
  pub records : SameItems s.records (accepted_in of.number script answers)
  pub suit : All (λ c. suits_tints of.tint c.entry.act ≡ true) s.records
  pub marks : OwnMarks of.keep s (forgotten_in of.number script answers)
  pub notes : LinesNote of.plan of.models s.log.records 0 script answers before s.noted
  pub saves : SeesSuited of s
      → All (λ save. save.version ≤ length s.log.records) (saved_in script answers)

-- all sessions from this one on ran their scripts, each from nothing
abbrev pub SessionsRanKeeping : ℕ → Bool → Layout → List Content → ℕ → List (List ScriptLine)
    → List (List LineAnswer) → List SessionView → Type 0
SessionsRanKeeping keep tint p models session [] [] [] = ⊤
SessionsRanKeeping keep tint p models session (script ∷ scripts) (answers ∷ transcripts)
    (s ∷ sessions) =
    SessionRan (session_keeping keep tint p models session) script answers none_noted s
    × SessionsRanKeeping keep tint p models (session + 1) scripts transcripts sessions
SessionsRanKeeping keep tint p models session _ _ _ = ⊥

-- where all versions are held
abbrev pub SessionsRan : Bool → Layout → List Content → ℕ → List (List ScriptLine)
    → List (List LineAnswer) → List SessionView → Type 0
SessionsRan tint p models session scripts transcripts sessions =
    SessionsRanKeeping 0 tint p models session scripts transcripts sessions

-- what all sessions did and noted
abbrev pub records_of_all : List SessionView → List Accepted
records_of_all [] = []
records_of_all (s ∷ sessions) = s.records ++ records_of_all sessions

abbrev pub marks_of_all : List SessionView → List Mark
marks_of_all [] = []
marks_of_all (s ∷ sessions) = s.marks ++ marks_of_all sessions

abbrev pub made_of_all : List SessionView → List Shape
made_of_all [] = []
made_of_all (s ∷ sessions) = s.noted.made ++ made_of_all sessions

abbrev pub met_of_all : List SessionView → List Wanted
met_of_all [] = []
met_of_all (s ∷ sessions) = s.noted.met ++ met_of_all sessions

abbrev pub noted_of_all : List SessionView → MadeAndMet
noted_of_all sessions = record { made = made_of_all sessions; met = met_of_all sessions }

-- the pair is of a length that the history has reached, and no mark forgets the version below it
pub record StillFound (log : Log) (f : Found) : Type 0 where
  pub there : f.at ≤ length log.records
  pub still : IsStill log f

-- the world of these sessions was closed with this history: it is legal, is coloured where cells
-- have tints, which the world then can keep, and goes on from what each session saw, and forgets no
-- version before a session found it; its records and marks are those of the sessions, each once;
-- and of whatever met a full bucket, the sessions together made enough
pub record ClosesWorld (tint : Bool) (p : Layout) (models : List Content)
    (sessions : List SessionView) (log : Log) : Type 0 where
  pub legal : IsLegal (2 ^ p.side) models log
  pub may : MayTint tint p models
  pub coloured : log.coloured ≡ tint
  pub seen : All (λ s. ExtendsLog (log_as tint s.log) log) sessions
  pub found : All (λ s. All (StillFound log) s.found) sessions
  pub records : SameItems (numbered 1 log.records) (records_of_all sessions)
  pub marks : SameItems log.marks (marks_of_all sessions)
  pub enough : HaveEnough p (noted_of_all sessions)
