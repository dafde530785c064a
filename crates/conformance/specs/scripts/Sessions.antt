-- What a run of scripts one after another keeps.
use Rattle.std.specs.Prelude.{◌≡◌, ◌≤◌, ℕ, List, ◌++◌, length}
use Rattle.vox_read.specs.Contents.{Content}
use Rattle.history_model.specs.Logs.{Log}
use Rattle.node_words.specs.Plans.{Layout}
use Rattle.script.specs.declared.commands.ScriptLine.{ScriptLine}
use Rattle.transcript.specs.declared.answers.LineAnswer.{LineAnswer}
use Rattle.conformance.specs.Kinds.{IsAfter}
use Rattle.conformance.specs.Refusing.{spans_in, spans_of, refused_in, refused_of}
use Rattle.conformance.specs.Running.{IsSoFar, LineStep}
use Rattle.conformance.specs.scripts.Keeping.{MadeAndMet, KeepsMade, LineMakes, last_moment}

-- some scripts were run, and of the next one these lines: their history, and what the store noted
pub record IsRunning (since keep : ℕ) (p : Layout) (models : List Content)
    (scripts : List (List ScriptLine)) (transcripts : List (List LineAnswer))
    (script : List ScriptLine)
    (transcript : List LineAnswer) (log : Log) (noted : MadeAndMet) : Type 0 where
  pub so_far : IsSoFar since keep p models scripts transcripts script transcript log
  pub keeps : KeepsMade p models log.records
      (spans_of scripts transcripts ++ spans_in 0 script transcript)
      (refused_of scripts transcripts ++ refused_in script transcript) noted

-- what one line makes of the history and of what is noted; the line before it has this moment
pub record TakesLine (keep : ℕ) (p : Layout) (models : List Content) (session first : ℕ)
    (l : ScriptLine) (old new : Log) (made now : MadeAndMet) (a : LineAnswer) : Type 0 where
  pub line : LineStep keep p models session l old new a
  pub makes : LineMakes p models first l a new.records made now

-- whatever has run so far, where the last `held` versions alone are held from some moment on, the
-- next line of the session makes a step that leaves the last `keep`
abbrev pub StepsOn : ℕ → ℕ → Layout → List Content → ℕ → ScriptLine → Log → Log → MadeAndMet
    → MadeAndMet → LineAnswer → Type 0
StepsOn held keep p models session l old new made now a =
    (since : ℕ) (scripts : List (List ScriptLine)) (transcripts : List (List LineAnswer))
    (script : List ScriptLine) (transcript : List LineAnswer)
    → IsRunning since held p models scripts transcripts script transcript old made
    → since ≤ length old.records → length scripts ≡ session → IsAfter script l
    → TakesLine keep p models session (last_moment 0 transcript) l old new made now a

-- the run goes on where the last `keep` versions alone are held, and with 0 all
abbrev pub ExtendsWith : ℕ → Layout → List Content → ℕ → ScriptLine → Log → Log → MadeAndMet
    → MadeAndMet → LineAnswer → Type 0
ExtendsWith keep p models session l old new made now a =
    StepsOn keep keep p models session l old new made now a

-- the run goes on, however many are held, but for the version that the line pushes out
abbrev pub ExtendsBefore : Layout → List Content → ℕ → ScriptLine → Log → Log → MadeAndMet
    → MadeAndMet → LineAnswer → Type 0
ExtendsBefore p models session l old new made now a =
    (keep : ℕ) → StepsOn keep 0 p models session l old new made now a
