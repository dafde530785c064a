-- Which saves of scripts were accepted, and of which versions.
use Rattle.std.specs.Prelude.{ℕ, List, [], ◌∷◌, ◌++◌}
use Rattle.script.specs.declared.commands.Command.{Command}
use Rattle.script.specs.declared.commands.Command.TheVariants.{Save}
use Rattle.script.specs.declared.commands.ScriptLine.{ScriptLine}
use Rattle.transcript.specs.declared.answers.Answer.{Answer}
use Rattle.transcript.specs.declared.answers.Answer.TheVariants as answers
use Rattle.transcript.specs.declared.answers.LineAnswer.{LineAnswer}
use Rattle.conformance.specs.declared.saves.SavedBox.{SavedBox}
use Rattle.conformance.specs.Answers.{asked_version}

-- a save that is answered by a number of cells, at this moment
abbrev pub saved_by : Command → ℕ → Answer → List SavedBox
saved_by (Save version name part) n (answers.Saved cells) =
    record { name = name; version = asked_version version n; part = part } ∷ []
saved_by _ n answer = []

-- those of a script's lines, and those of all scripts, in order
abbrev pub saved_in : List ScriptLine → List LineAnswer → List SavedBox
saved_in [] answers = []
saved_in (l ∷ lines) [] = []
saved_in (l ∷ lines) (a ∷ answers) = saved_by l.command a.at a.answer ++ saved_in lines answers

abbrev pub saved_of : List (List ScriptLine) → List (List LineAnswer) → List SavedBox
saved_of [] transcripts = []
saved_of (script ∷ scripts) [] = []
saved_of (script ∷ scripts) (transcript ∷ transcripts) =
    saved_in script transcript ++ saved_of scripts transcripts
