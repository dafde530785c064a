-- What a refused read or write of std's readers and writers leaves, where their bytes are known.
use Rattle.std.specs.Prelude.{◌≡◌, ℕ, ◌<◌, List, length, take, Option, IfSome, ⊤}
use Rattle.std.specs.Io.KnownBytes.{Appends, Keeps}
use Rattle.vw_io.specs.declared.shelves.ReadRefused.{ReadRefused}
use Rattle.vw_io.specs.declared.shelves.ReadRefused.TheVariants.{Missing, TooLong, Failed, Memory}
use Rattle.vw_io.specs.declared.sinks.PutRefused.{PutRefused}
use Rattle.vw_io.specs.declared.sinks.PutRefused.TheVariants as puts

-- why a reader of these bytes was not read to its end within the limit
abbrev pub StopsReading : ReadRefused → Option (List ℕ) → ℕ → Type 0
StopsReading Missing known limit = ⊥
StopsReading TooLong known limit = IfSome known (λ all. limit < length all)
StopsReading Failed known limit = ⊤
StopsReading Memory known limit = ⊤

-- why one more piece, after so many bytes, was not read
abbrev pub StopsAfter : ReadRefused → Option (List ℕ) → ℕ → ℕ → Type 0
StopsAfter Missing known filled limit = ⊥
StopsAfter TooLong known filled limit = (filled ≡ limit) × IfSome known (λ left. 0 < length left)
StopsAfter Failed known filled limit = ⊤
StopsAfter Memory known filled limit = ⊤

-- an error of the reader itself
abbrev pub IsOfReader : ReadRefused → Type 0
IsOfReader Missing = ⊥
IsOfReader TooLong = ⊥
IsOfReader Failed = ⊤
IsOfReader Memory = ⊤

-- some first bytes of these were appended
pub record AppendsSome (old new : Option (List ℕ)) (bytes : List ℕ) : Type 0 where
  pub sent : ℕ
  pub appended : Appends old new (take sent bytes)

-- what a writer holds where not all bytes were taken
abbrev pub StopsWriting : PutRefused → Option (List ℕ) → Option (List ℕ) → List ℕ → Type 0
StopsWriting puts.Failed old new bytes = AppendsSome old new bytes
StopsWriting puts.Memory old new bytes = Keeps old new
