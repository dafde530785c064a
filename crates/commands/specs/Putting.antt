-- Outputs that are written in their order, and the line of a fault at one.
use Rattle.std.specs.Prelude.{◌≡◌, ◌≤◌, ℕ, List, [], ◌∷◌, ◌++◌, length, max, Result, Ok, Err, codes, string_bytes, ⊤}
use Rattle.vw_io.specs.Outside.{ShelfState}
use Rattle.vw_io.specs.Outputs.{Named, AreWritten, StopsWith}
use Rattle.vw_io.specs.declared.shelves.WriteRefused.{WriteRefused}
use Rattle.vw_io.specs.declared.shelves.WriteRefused.TheVariants as writes
use Rattle.commands.specs.declared.refusals.NamedOutputRefused.{NamedOutputRefused}
use Rattle.commands.specs.declared.refusals.NamedOutputRefused.TheVariants.{Failed, Memory}

-- the line that tells a fault of the shelf at the output of this name
abbrev pub write_fault_line : List ℕ → List ℕ
write_fault_line name = codes "voxdag: write fault " ++ (name ++ codes "\n")

-- the length of the longest name
abbrev pub longest_name : List Named → ℕ
longest_name [] = 0
longest_name (output ∷ others) = max (length output.name) (longest_name others)

abbrev pub cause_of : NamedOutputRefused → WriteRefused
cause_of (Failed line) = writes.Failed
cause_of Memory = writes.Memory

-- a fault's refusal holds the line of the output of this name
abbrev pub HoldsLine : NamedOutputRefused → List ℕ → Type 0
HoldsLine (Failed line) name = string_bytes line ≡ write_fault_line name
HoldsLine Memory name = ⊤

-- the outputs up to one of them were written, and that one was not
pub record StopsAmong (r : NamedOutputRefused) (outputs : List Named) (old new : ShelfState)
    : Type 0 where
  pub name : List ℕ
  pub holds : HoldsLine r name
  pub stops : StopsWith (cause_of r) name outputs old.files new.files old.faults new.faults

-- these outputs were written, or some first ones of them
abbrev pub Writes : {X : Type 0} → Result X NamedOutputRefused → List Named → ShelfState
    → ShelfState → Type 0
Writes (Ok x) outputs old new =
    AreWritten outputs old.files new.files × (old.faults ≤ new.faults)
Writes (Err r) outputs old new = StopsAmong r outputs old new
