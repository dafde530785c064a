-- What the texts of scripts say, one after the other.
use Rattle.std.specs.Prelude.{◌≡◌, ℕ, ◌+◌, ◌^◌, Bool, true, List, [], ◌∷◌, ◌++◌, All, Result, Ok, Err, ⊤}
use Rattle.plain_text.specs.Steps.{◌>>=◌}
use Rattle.vox_read.specs.Contents.{Content}
use Rattle.script.specs.declared.commands.ScriptLine.{ScriptLine}
use Rattle.script.specs.declared.faults.ScriptFault.{ScriptFault}
use Rattle.script.specs.Fitting.{CommandFits, RisesFrom}
use Rattle.script.specs.Placing.{is_save_name}
use Rattle.script.specs.declared.commands.Command.{Command}
use Rattle.script.specs.declared.commands.Command.TheVariants.{Save}
use Rattle.script.specs.Scripts.{commands_of}
use Rattle.history_model.specs.Logs.{Log, store_exponent}
use Rattle.requests.specs.Orders.{Asked, asked_side, world_exponent}
use Rattle.commands.specs.declared.refusals.NumberedFault.{NumberedFault}

-- a fault stands in the script of its number
abbrev pub in_script : ℕ → Result (List ScriptLine) ScriptFault
    → Result (List ScriptLine) NumberedFault
in_script number (Ok lines) = Ok lines
in_script number (Err fault) = Err (record { script = number; fault = fault })

-- the commands of these texts, the first of which has this number, or the first fault of the first
-- text that has one. It names whether cells have tints, the exponent of the world's side, and the
-- models.
abbrev pub texts_from : Bool → ℕ → List Content → ℕ → List (List ℕ)
    → Result (List (List ScriptLine)) NumberedFault
texts_from tint side models number [] = Ok []
texts_from tint side models number (text ∷ texts) =
    in_script number (commands_of tint side models text) >>= λ lines.
    texts_from tint side models (number + 1) texts >>= λ others. Ok (lines ∷ others)

-- scripts are counted from 0
abbrev pub scripts_of : Bool → ℕ → List Content → List (List ℕ)
    → Result (List (List ScriptLine)) NumberedFault
scripts_of tint side models texts = texts_from tint side models 0 texts

-- those of a run, in its world
abbrev pub lines_asked : Asked → List Content → List (List ℕ)
    → Result (List (List ScriptLine)) NumberedFault
lines_asked asked models texts = scripts_of asked.tint (asked_side asked) models texts

-- those of a run that a journal tells of, in its history's world
abbrev pub lines_in_history : Log → List Content → List (List ℕ)
    → Result (List (List ScriptLine)) NumberedFault
lines_in_history log models texts =
    scripts_of log.coloured (world_exponent log.coloured log.side) models texts

-- a file can have the name under which the line saves, where it does
abbrev pub FileNameIsOf : Command → Type 0
FileNameIsOf (Save version name part) = is_save_name name ≡ true
FileNameIsOf _ = ⊤

abbrev pub HasFileName : ScriptLine → Type 0
HasFileName l = FileNameIsOf l.command

-- what follows from the language for every script, which its run stands on: each command fits the
-- world that a store of this side keeps and the models, and lines rise
pub record AreFitScripts (tint : Bool) (side : ℕ) (models : List Content)
    (scripts : List (List ScriptLine)) : Type 0 where
  pub fit : All (All (λ l. CommandFits tint (2 ^ side) models l.command)) scripts
  pub rise : All (RisesFrom 1) scripts

-- one more script was read, and its commands stand behind those before it
pub record ReadsScript (tint : Bool) (side : ℕ) (models : List Content) (text : List ℕ)
    (old new : List (List ScriptLine)) : Type 0 where
  pub lines : List ScriptLine
  pub read : commands_of tint side models text ≡ Ok lines
  pub kept : new ≡ old ++ lines ∷ []
  pub fit : AreFitScripts tint (store_exponent tint side) models (lines ∷ [])
