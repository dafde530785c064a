-- The commands of a world are those of the store that keeps it.
use Rattle.std.proofs.Common.{◌≡◌, ℕ, ◌^◌, Bool, List, subst}
use Rattle.std.specs.Prelude.{All}
use Rattle.history_model.specs.Contents.{Content}
use Rattle.script.specs.Fitting.{CommandFits}
use Rattle.script.specs.declared.commands.ScriptLine.{ScriptLine}

pub fits_store : (tint : Bool) (n m : ℕ) (models : List Content) (script : List ScriptLine) → n ≡ m
    → All (λ l. CommandFits tint (2 ^ n) models l.command) script
    → All (λ l. CommandFits tint (2 ^ m) models l.command) script
fits_store tint n m models script same fit =
    subst (λ (k : ℕ). All
    (λ (l : ScriptLine). CommandFits tint (2 ^ k) models l.command) script) same fit
