-- What a run of scripts gives. Session k has script k and transcript k.
use Rattle.std.specs.Prelude.{ℕ, ◌^◌, List}
use Rattle.history_model.specs.Contents.{Content}
use Rattle.history_model.specs.Logs.{Log, IsLegal, SuitsTints}
use Rattle.node_words.specs.Plans.{Layout}
use Rattle.script.specs.declared.commands.ScriptLine.{ScriptLine}
use Rattle.transcript.specs.declared.answers.LineAnswer.{LineAnswer}
use Rattle.retain.specs.Retained.{KeepsLast}
use Rattle.conformance.specs.Agreeing.{AgreesKeeping}
use Rattle.conformance.specs.Refusing.{FullOnlyWherePossible}

-- all scripts were run, and the last `keep` versions alone are held: one legal history of all
-- sessions, in which acts are tinted exactly where it is coloured, and each version was forgotten
-- as it fell out; which agrees with the scripts and their transcripts; and no change was refused
-- for a full bucket where not enough was possible
pub record AllRanKeeping (keep : ℕ) (p : Layout) (models : List Content)
    (scripts : List (List ScriptLine)) (transcripts : List (List LineAnswer)) (log : Log)
    : Type 0 where
  pub legal : IsLegal (2 ^ p.side) models log
  pub suits : SuitsTints log
  pub last : KeepsLast keep log
  pub agrees : AgreesKeeping keep p models log scripts transcripts
  pub full : FullOnlyWherePossible p models log scripts transcripts

-- and all versions are held
abbrev pub AllRan : Layout → List Content → List (List ScriptLine) → List (List LineAnswer) → Log
    → Type 0
AllRan p models scripts transcripts log = AllRanKeeping 0 p models scripts transcripts log
