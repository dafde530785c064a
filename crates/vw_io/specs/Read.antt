-- What a read of a shelf answers, one case for each answer. The cases exclude each other.
use Rattle.std.specs.Prelude.{◌≡◌, ℕ, ◌<◌, ◌≤◌, List, length, Option, None, Some, IsSomeAnd, Result, Ok, Err, ⊤}
use Rattle.vw_io.specs.declared.shelves.ReadRefused.{ReadRefused}
use Rattle.vw_io.specs.declared.shelves.ReadRefused.TheVariants.{Missing, TooLong, Failed, Memory}
use Rattle.vw_io.specs.Outside.{Files, Rose, Stayed}

-- what the file at the name is, where the map is told
abbrev pub ReadFits : Files → List ℕ → ℕ → Result (Unit {0}) ReadRefused → List ℕ → Type 0
ReadFits files name limit (Ok _) bytes = (files name ≡ Some bytes) × (length bytes ≤ limit)
ReadFits files name limit (Err Missing) bytes = files name ≡ None
ReadFits files name limit (Err TooLong) bytes = IsSomeAnd (files name) (λ file. limit < length file)
ReadFits files name limit (Err Failed) bytes = ⊤
ReadFits files name limit (Err Memory) bytes = ⊤

-- the same at an optional map: one that isn't told claims nothing
abbrev pub ReadSpec : Option Files → List ℕ → ℕ → Result (Unit {0}) ReadRefused → List ℕ → Type 0
ReadSpec None name limit result bytes = ⊤
ReadSpec (Some files) name limit result bytes = ReadFits files name limit result bytes

-- what the count of faults, which never falls, did besides
abbrev pub ReadCause : Result (Unit {0}) ReadRefused → ℕ → ℕ → Type 0
ReadCause (Ok _) before now = ⊤
ReadCause (Err Missing) before now = Stayed before now
ReadCause (Err TooLong) before now = Stayed before now
ReadCause (Err Failed) before now = Rose before now
ReadCause (Err Memory) before now = ⊤
