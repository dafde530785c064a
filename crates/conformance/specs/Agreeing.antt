-- When a history, scripts and their transcripts agree. Session k has script k.
use Rattle.std.specs.Prelude.{◌≡◌, ℕ, ◌+◌, ◌<◌, ◌≤◌, List, [], ◌∷◌, AllPairs, ⊤}
use Rattle.std.specs.List.{AllZip}
use Rattle.history_model.specs.Contents.{Content}
use Rattle.history_model.specs.Logs.{Log}
use Rattle.node_words.specs.Plans.{Layout}
use Rattle.script.specs.declared.commands.ScriptLine.{ScriptLine}
use Rattle.transcript.specs.declared.answers.Answer.TheVariants as answers
use Rattle.transcript.specs.declared.answers.LineAnswer.{LineAnswer}
use Rattle.conformance.specs.Answers.{LineFits}
use Rattle.conformance.specs.Shown.{IsShownKeeping}

-- moments never fall, an accepted change is later than all before it, and what made a change stale
-- had been seen by none
pub record InOrder (a b : LineAnswer) : Type 0 where
  pub no_earlier : a.at ≤ b.at
  pub later : b.answer ≡ answers.Done → a.at < b.at
  pub unseen : (base : ℕ) → b.answer ≡ answers.Stale base → a.at ≤ base

-- one session: each command has its line, in order, and each line fits
pub record SessionAgrees (p : Layout) (models : List Content) (log : Log) (session : ℕ)
    (script : List ScriptLine) (transcript : List LineAnswer) : Type 0 where
  pub lines : AllZip (LineFits p models log session) script transcript
  pub moments : AllPairs InOrder transcript

-- all sessions from this one on
abbrev pub SessionsAgree : Layout → List Content → Log → ℕ → List (List ScriptLine)
    → List (List LineAnswer) → Type 0
SessionsAgree p models log session [] [] = ⊤
SessionsAgree p models log session [] (transcript ∷ transcripts) = ⊥
SessionsAgree p models log session (script ∷ scripts) [] = ⊥
SessionsAgree p models log session (script ∷ scripts) (transcript ∷ transcripts) =
    SessionAgrees p models log session script transcript
    × SessionsAgree p models log (session + 1) scripts transcripts

-- the history, the scripts and the transcripts agree, where the last `keep` versions alone are held
pub record AgreesKeeping (keep : ℕ) (p : Layout) (models : List Content) (log : Log)
    (scripts : List (List ScriptLine)) (transcripts : List (List LineAnswer)) : Type 0 where
  pub sessions : SessionsAgree p models log 0 scripts transcripts
  pub shown : IsShownKeeping keep scripts transcripts log

-- and where all are
abbrev pub Agrees : Layout → List Content → Log → List (List ScriptLine) → List (List LineAnswer)
    → Type 0
Agrees p models log scripts transcripts = AgreesKeeping 0 p models log scripts transcripts
