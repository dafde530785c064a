-- What a sink has after bytes were put, one case for each answer.
use Rattle.std.specs.Prelude.{◌≡◌, ℕ, List, ◌++◌, take, Option, None, Some, Result, Ok, Err, ⊤}
use Rattle.vw_io.specs.declared.sinks.PutRefused.{PutRefused}
use Rattle.vw_io.specs.declared.sinks.PutRefused.TheVariants.{Failed, Memory}
use Rattle.vw_io.specs.Outside.{Rose}

-- some first bytes of these were appended
pub record AppendsPrefix (before bytes now : List ℕ) : Type 0 where
  pub sent : ℕ
  pub appended : now ≡ before ++ take sent bytes

-- what the sink has afterwards
abbrev pub PutLeaves : List ℕ → List ℕ → List ℕ → Result (Unit {0}) PutRefused → Type 0
PutLeaves before now bytes (Ok _) = now ≡ before ++ bytes
PutLeaves before now bytes (Err Failed) = AppendsPrefix before bytes now
PutLeaves before now bytes (Err Memory) = now ≡ before

-- the same where the bytes may not be told: then nothing is claimed and they stay untold, and what
-- is told stays told
abbrev pub PutSpec : Option (List ℕ) → Option (List ℕ) → List ℕ → Result (Unit {0}) PutRefused
    → Type 0
PutSpec None now bytes result = now ≡ None
PutSpec (Some before) None bytes result = ⊥
PutSpec (Some before) (Some now) bytes result = PutLeaves before now bytes result

-- what the count of faults, which never falls, did besides
abbrev pub PutCause : Result (Unit {0}) PutRefused → ℕ → ℕ → Type 0
PutCause (Ok _) before now = ⊤
PutCause (Err Failed) before now = Rose before now
PutCause (Err Memory) before now = ⊤
