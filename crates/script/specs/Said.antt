-- The command that some words spelled.
use Rattle.std.specs.Prelude.{ℤ, Bool, None}
use Rattle.history_model.specs.Worlds.{box_at}
use Rattle.history_model.specs.Ways.{heading_of, Heading}
use Rattle.history_model.specs.Spelled.{spelled_act}
use Rattle.history_model.specs.declared.questions.Question.{Question}
use Rattle.history_model.specs.declared.questions.Question.TheVariants as questions
use Rattle.script.specs.Numbers.{signed}
use Rattle.script.specs.declared.commands.Command.{Command}
use Rattle.script.specs.declared.commands.Command.TheVariants as commands
use Rattle.script.specs.declared.commands.SaveName.{SaveName}
use Rattle.script.specs.declared.said.NameWord.{NameWord}
use Rattle.script.specs.declared.said.SpelledAsk.{SpelledAsk}
use Rattle.script.specs.declared.said.SpelledAsk.TheVariants as queries
use Rattle.script.specs.declared.said.Asked.{Asked}
use Rattle.script.specs.declared.said.Asked.TheVariants.{Get, Colour, Count, Bounds, Faces, Ray}
use Rattle.script.specs.declared.said.SpelledCommand.{SpelledCommand}
use Rattle.script.specs.declared.said.SpelledCommand.TheVariants.{Edit, Forget, Ask, Save, Same, Head}
use Rattle.script.specs.declared.said.SignedSize.{SignedSize}
use Rattle.script.specs.declared.said.SpelledSteps.{SpelledSteps}

abbrev pub step_said : SignedSize → ℤ
step_said s = signed s.low s.size

abbrev pub way_said : SpelledSteps → Heading
way_said s = heading_of (step_said s.x) (step_said s.y) (step_said s.z)

abbrev pub question_said : Asked → Question
question_said (Get c) = questions.Get c
question_said (Colour c) = questions.Colour c
question_said (Count at size) = questions.Count (box_at at size)
question_said Bounds = questions.Bounds
question_said (Faces at size) = questions.Faces (box_at at size)
question_said (Ray from steps) = questions.Ray from (way_said steps)

-- a question of the newest version
abbrev pub asked_command : Asked → Command
asked_command asked = commands.Ask None (question_said asked)

abbrev pub name_said : NameWord → SaveName
name_said word = record { bytes = word.bytes; len = word.len }

-- what is asked of the newest version
abbrev pub query_command : SpelledAsk → Command
query_command (queries.Question asked) = asked_command asked
query_command (queries.Save name at size) = commands.Save None (name_said name) (box_at at size)

-- what was said in a world with tints or without
abbrev pub command_said : Bool → SpelledCommand → Command
command_said tint (Edit act once) = commands.Edit (spelled_act tint act) once
command_said tint (Forget v) = commands.Forget v
command_said tint (Ask version question) = commands.Ask version (question_said question)
command_said tint (Save version name at size) =
    commands.Save version (name_said name) (box_at at size)
command_said tint (Same v w) = commands.Same v w
command_said tint Head = commands.Head
