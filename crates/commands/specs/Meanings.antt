-- What a command means: what it reads, what it tells and puts out by the texts of its inputs, and
-- why they are refused.
use Rattle.std.specs.Prelude.{◌≡◌, ℕ, List, [], ◌∷◌, Bool, ⊤}
use Rattle.vw_io.specs.Inputs.{WantedInput}
use Rattle.vw_io.specs.Outputs.{Named}
use Rattle.commands.specs.declared.refusals.TextRefused.{TextRefused}
use Rattle.commands.specs.declared.refusals.TextRefused.TheVariants.{Memory}
use Rattle.commands.specs.Verdicts.{Verdict}

-- the text of the VOX file is the first, and those of the scripts come behind it
abbrev pub file_in : List (List ℕ) → List ℕ
file_in [] = []
file_in (file ∷ others) = file

abbrev pub scripts_in : List (List ℕ) → List (List ℕ)
scripts_in [] = []
scripts_in (file ∷ scripts) = scripts

-- a command that is told with a T: what it reads, in order; what it tells and puts out where
-- nothing is refused; first ones of its outputs; why its texts, or the names of its outputs, are
-- refused; what is judged of them; and whether it reads a journal, of which no verdict is computed
pub record Meaning (T : Type 0) : Type 1 where
  pub inputs : List WantedInput
  pub gives : List (List ℕ) → T → List Named → Type 0
  pub begins : List (List ℕ) → List Named → Type 0
  pub refuses : List (List ℕ) → TextRefused → Type 0
  pub judges : List (List ℕ) → Verdict → Type 0
  pub journal : Bool

-- a command that writes nothing has no first outputs
abbrev pub BeginsNothing : List (List ℕ) → List Named → Type 0
BeginsNothing texts outputs = ⊥

-- and one that reads nothing is refused for want of memory alone
abbrev pub RefusesNothing : List (List ℕ) → TextRefused → Type 0
RefusesNothing texts Memory = ⊤
RefusesNothing texts _ = ⊥

-- the same command, told as one of all
pub record GivesAs {T U : Type 0} (make : T → U)
    (gives : List (List ℕ) → T → List Named → Type 0) (texts : List (List ℕ)) (told : U)
    (outputs : List Named) : Type 0 where
  pub own : T
  pub is : told ≡ make own
  pub given : gives texts own outputs

abbrev pub told_as : {T U : Type 0} → (T → U) → Meaning T → Meaning U
told_as make m = record {
  inputs = m.inputs;
  gives = GivesAs make m.gives;
  begins = m.begins;
  refuses = m.refuses;
  judges = m.judges;
  journal = m.journal;
}
