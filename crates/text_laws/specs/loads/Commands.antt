-- The commands of a load's script.
use Rattle.std.specs.Prelude.{ℕ, ◌+◌, false, List, [], ◌∷◌, ◌++◌, None}
use Rattle.vw_cell.specs.declared.boxes.Boxed.{Boxed}
use Rattle.history_model.specs.declared.acts.Act.{Act}
use Rattle.history_model.specs.declared.questions.Question.TheVariants.{Count}
use Rattle.script.specs.declared.commands.Command.TheVariants.{Edit, Ask}
use Rattle.script.specs.declared.commands.ScriptLine.{ScriptLine}
use Rattle.gen_load.specs.Loads.{edits_from}

-- the edits, on lines from this one on
abbrev pub edit_lines : ℕ → List Act → List ScriptLine
edit_lines number [] = []
edit_lines number (act ∷ more) =
    record { line = number; command = Edit act false } ∷ edit_lines (number + 1) more

-- a region of the world of side 256, as a box
abbrev pub region_box : ℕ → Boxed
region_box x =
    record { at = record { x = x; y = 0; z = 0 }; size = record { x = 64; y = 256; z = 256 } }

-- the next 200 edits of a region, and the question of how many cells the region has
abbrev pub commands_drawn : ℕ → ℕ → List ScriptLine
commands_drawn g x =
    edit_lines 1 (edits_from g x 200)
    ++ record { line = 201; command = Ask None (Count (region_box x)) } ∷ []
