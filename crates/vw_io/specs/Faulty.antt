-- What a shelf and a sink do whose calls fail as they are told to.
use Rattle.std.specs.Prelude.{◌≡◌, ℕ, ◌+◌, ◌-◌, ◌^◌, ◌==◌, List, ◌++◌, take, find, min, Option, Some, None, option_map, Result, Ok, Err, ⊤}
use Rattle.vw_io.specs.declared.shelves.ReadRefused.{ReadRefused}
use Rattle.vw_io.specs.declared.shelves.ReadRefused.TheVariants as reads
use Rattle.vw_io.specs.declared.shelves.WriteRefused.{WriteRefused}
use Rattle.vw_io.specs.declared.shelves.WriteRefused.TheVariants as writes
use Rattle.vw_io.specs.declared.sinks.PutRefused.{PutRefused}
use Rattle.vw_io.specs.declared.sinks.PutRefused.TheVariants as puts
use Rattle.vw_io.specs.Outside.{Files, SameElsewhere}
use Rattle.vw_io.specs.System.{most_faults, faults_after_read, faults_after_write, faults_after_put}

-- the number of the next call, where so many were made
abbrev pub next_call : ℕ → ℕ
next_call calls = min (calls + 1) (2 ^ 64 - 1)

-- how many bytes go through at the call of this number, where it fails
abbrev pub passing : List (ℕ × ℕ) → ℕ → Option ℕ
passing fails call = option_map (λ fail. fail.1) (find (λ fail. fail.0 == call) fails)

-- a read at a call that fails gives no bytes, and any other is answered as the files say: it fails
-- only where the count of faults stood at its last value
abbrev pub FailsRead : Option ℕ → ℕ → Result (Unit {0}) ReadRefused → Type 0
FailsRead None faults (Err reads.Failed) = faults ≡ most_faults
FailsRead None faults _ = ⊤
FailsRead (Some passes) faults result = result ≡ Err reads.Failed

-- a write at a call that fails leaves just so many first bytes, unless memory is wanted
abbrev pub LeavesFirst : ℕ → Files → Files → List ℕ → List ℕ → Result (Unit {0}) WriteRefused
    → Type 0
LeavesFirst passes old new name bytes (Ok done) = ⊥
LeavesFirst passes old new name bytes (Err writes.Failed) =
    (new name ≡ Some (take passes bytes)) × SameElsewhere old new name
LeavesFirst passes old new name bytes (Err writes.Memory) = new ≡ old

abbrev pub FailsWrite : Option ℕ → Files → Files → List ℕ → List ℕ → Result (Unit {0}) WriteRefused
    → Type 0
FailsWrite None old new name bytes (Ok done) = ⊤
FailsWrite None old new name bytes (Err writes.Failed) = ⊥
FailsWrite None old new name bytes (Err writes.Memory) = ⊤
FailsWrite (Some passes) old new name bytes result = LeavesFirst passes old new name bytes result

-- the same of a put
abbrev pub PutsFirst : ℕ → List ℕ → List ℕ → List ℕ → Result (Unit {0}) PutRefused → Type 0
PutsFirst passes old new bytes (Ok done) = ⊥
PutsFirst passes old new bytes (Err puts.Failed) = new ≡ old ++ take passes bytes
PutsFirst passes old new bytes (Err puts.Memory) = new ≡ old

abbrev pub FailsPut : Option ℕ → List ℕ → List ℕ → List ℕ → Result (Unit {0}) PutRefused → Type 0
FailsPut None old new bytes (Ok done) = ⊤
FailsPut None old new bytes (Err puts.Failed) = ⊥
FailsPut None old new bytes (Err puts.Memory) = ⊤
FailsPut (Some passes) old new bytes result = PutsFirst passes old new bytes result

-- the count of faults after a read, after a write and after a put: it rises where they fail alone
abbrev pub CountsRead : Result (Unit {0}) ReadRefused → ℕ → ℕ → Type 0
CountsRead (Ok done) before now = now ≡ before
CountsRead (Err refused) before now = now ≡ faults_after_read refused before

abbrev pub CountsWrite : Result (Unit {0}) WriteRefused → ℕ → ℕ → Type 0
CountsWrite (Ok done) before now = now ≡ before
CountsWrite (Err refused) before now = now ≡ faults_after_write refused before

abbrev pub CountsPut : Result (Unit {0}) PutRefused → ℕ → ℕ → Type 0
CountsPut (Ok done) before now = now ≡ before
CountsPut (Err refused) before now = now ≡ faults_after_put refused before
