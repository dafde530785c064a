-- How many saves lines ask for, and of which versions they are.
use Rattle.std.specs.Prelude.{ℕ, ◌+◌, Option, List, [], ◌∷◌, map, Result, Ok, Err}
use Rattle.script.specs.declared.commands.Command.{Command}
use Rattle.script.specs.declared.commands.Command.TheVariants.{Save}
use Rattle.script.specs.declared.commands.ScriptLine.{ScriptLine}
use Rattle.conformance.specs.declared.saves.SavedBox.{SavedBox}
use Rattle.conformance.specs.Answers.{asked_version}
use Rattle.conformance.specs.declared.sessions.calls.SavedAt.{SavedAt}
use Rattle.retain.specs.declared.refusals.PinRefused.{PinRefused}

-- 1 where the command is a save
abbrev pub saves_asked : Command → ℕ
saves_asked (Save version name part) = 1
saves_asked _ = 0

-- of all lines
abbrev pub saves_asked_in : List ScriptLine → ℕ
saves_asked_in [] = 0
saves_asked_in (l ∷ lines) = saves_asked l.command + saves_asked_in lines

abbrev pub versions_of : List SavedBox → List ℕ
versions_of saves = map (λ s. s.version) saves

-- the version that a call saved, where it did
abbrev pub version_saved : Option ℕ → Result SavedAt PinRefused → List ℕ
version_saved version (Ok a) = asked_version version a.at ∷ []
version_saved version (Err refused) = []
