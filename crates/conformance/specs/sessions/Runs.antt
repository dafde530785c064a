-- What a session makes of a script.
use Rattle.std.specs.Prelude.{◌≡◌, ℕ, List, ◌++◌}
use Rattle.script.specs.declared.commands.ScriptLine.{ScriptLine}
use Rattle.transcript.specs.declared.answers.LineAnswer.{LineAnswer}
use Rattle.conformance.specs.Answers.{ExtendsLog}
use Rattle.conformance.specs.Saves.{saved_in}
use Rattle.conformance.specs.sessions.Saves.{versions_of}
use Rattle.conformance.specs.sessions.SessionViews.{SessionOf, SessionView}
use Rattle.conformance.specs.sessions.Ran.{SessionRan}

-- the answers came behind those that were there, the session ran the script, what it saw goes on
-- from what it had seen, and it has saved the versions of what was accepted
pub record RunsScript (of : SessionOf) (script : List ScriptLine) (before after : List LineAnswer)
    (old new : SessionView)
    (were are : List ℕ) : Type 0 where
  pub answers : List LineAnswer
  pub pushed : after ≡ before ++ answers
  pub ran : SessionRan of script answers old.noted new
  pub goes_on : ExtendsLog old.log new.log
  pub saved : are ≡ were ++ versions_of (saved_in script answers)
