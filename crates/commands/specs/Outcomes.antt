-- How a command ends, one case for each answer, and what it leaves on the shelf. This is said once,
-- for every command.
use Rattle.std.specs.Prelude.{◌≡◌, ◌≤◌, ℕ, List, Option, Result, Ok, Err, ⊤}
use Rattle.vw_io.specs.Outside.{Files, ShelfState, KeepsFiles}
use Rattle.vw_io.specs.Inputs.{WantedInput, AreTaken, StopsAt}
use Rattle.vw_io.specs.Outputs.{Named, AreWritten, StopsWith}
use Rattle.vw_io.specs.declared.shelves.WriteRefused.{WriteRefused}
use Rattle.commands.specs.declared.refusals.CommandRefused.{CommandRefused}
use Rattle.commands.specs.declared.refusals.CommandRefused.TheVariants.{Input, Text, Output}
use Rattle.commands.specs.declared.refusals.TextRefused.{TextRefused}
use Rattle.commands.specs.declared.refusals.TextRefused.TheVariants.{Memory}
use Rattle.commands.specs.Meanings.{Meaning}
use Rattle.commands.specs.Putting.{cause_of, HoldsLine}
use Rattle.commands.specs.declared.refusals.NamedOutputRefused.{NamedOutputRefused}

-- it came to its end: all inputs were taken, this is what it tells and puts out, all outputs are
-- whole, and no other file has changed
pub record Completes {T : Type 0} (m : Meaning T) (x : T) (old new : ShelfState) : Type 0 where
  pub texts : List (List ℕ)
  pub taken : AreTaken old.files m.inputs texts
  pub outputs : List Named
  pub gives : m.gives texts x outputs
  pub whole : AreWritten outputs old.files new.files
  pub never_falls : old.faults ≤ new.faults

-- all inputs were taken, the outputs up to the one of this name were written, and that one was not
pub record BreaksOff (why : WriteRefused) (name : List ℕ) (inputs : List WantedInput)
    (begins : List (List ℕ) → List Named → Type 0) (old new : ShelfState) : Type 0 where
  pub texts : List (List ℕ)
  pub taken : AreTaken old.files inputs texts
  pub outputs : List Named
  pub begun : begins texts outputs
  pub stops : StopsWith why name outputs old.files new.files old.faults new.faults

-- and the refusal holds the line of that output
pub record OutputsRefused (r : NamedOutputRefused) (inputs : List WantedInput)
    (begins : List (List ℕ) → List Named → Type 0) (old new : ShelfState) : Type 0 where
  pub name : List ℕ
  pub holds : HoldsLine r name
  pub breaks : BreaksOff (cause_of r) name inputs begins old new

-- all inputs were taken, and their texts are refused
pub record TextsRefused (r : TextRefused) (inputs : List WantedInput)
    (refuses : List (List ℕ) → TextRefused → Type 0) (files : Option Files) : Type 0 where
  pub texts : List (List ℕ)
  pub taken : AreTaken files inputs texts
  pub says : refuses texts r

-- the same, but that want of memory says nothing of the inputs
abbrev pub RefusesFiles : TextRefused → List WantedInput
    → (List (List ℕ) → TextRefused → Type 0) → Option Files → Type 0
RefusesFiles Memory inputs refuses files = ⊤
RefusesFiles r inputs refuses files = TextsRefused r inputs refuses files

-- why it did not come to its end
abbrev pub Refused : CommandRefused → List WantedInput → (List (List ℕ) → List Named → Type 0)
    → (List (List ℕ) → TextRefused → Type 0) → ShelfState → ShelfState → Type 0
Refused (Input r) inputs begins refuses old new =
    StopsAt r.why r.name.now inputs old.files old.faults new.faults × (new.files ≡ old.files)
Refused (Text r) inputs begins refuses old new =
    RefusesFiles r inputs refuses old.files × KeepsFiles old new
Refused (Output r) inputs begins refuses old new = OutputsRefused r inputs begins old new

abbrev pub Outcome : {T : Type 0} → Meaning T → Result T CommandRefused → ShelfState → ShelfState
    → Type 0
Outcome m (Ok x) old new = Completes m x old new
Outcome m (Err refused) old new = Refused refused m.inputs m.begins m.refuses old new
