-- What a write to a shelf does, one case for each answer.
use Rattle.std.specs.Prelude.{◌≡◌, ℕ, List, Option, None, Some, IsSomeAnd, Result, Ok, Err, ◌⊎◌, ⊤}
use Rattle.std.specs.Io.{StartsWith}
use Rattle.vw_io.specs.declared.shelves.WriteRefused.{WriteRefused}
use Rattle.vw_io.specs.declared.shelves.WriteRefused.TheVariants.{Failed, Memory}
use Rattle.vw_io.specs.Outside.{Files, Rose, SameElsewhere}

-- the name has some first bytes of these
abbrev pub HasPrefix : Option (List ℕ) → List ℕ → Type 0
HasPrefix file bytes = IsSomeAnd file (λ held. StartsWith bytes held)

-- what the map is afterwards
abbrev pub WriteLeaves : Files → Files → List ℕ → List ℕ → Result (Unit {0}) WriteRefused → Type 0
WriteLeaves before now name bytes (Ok _) = (now name ≡ Some bytes) × SameElsewhere before now name
WriteLeaves before now name bytes (Err Failed) =
    (HasPrefix (now name) bytes ⊎ (now name ≡ before name)) × SameElsewhere before now name
WriteLeaves before now name bytes (Err Memory) = now ≡ before

-- the same at optional maps: one that isn't told claims nothing and stays untold, and one that is
-- told stays told
abbrev pub WriteSpec : Option Files → Option Files → List ℕ → List ℕ
    → Result (Unit {0}) WriteRefused → Type 0
WriteSpec None now name bytes result = now ≡ None
WriteSpec (Some before) None name bytes result = ⊥
WriteSpec (Some before) (Some now) name bytes result = WriteLeaves before now name bytes result

-- what the count of faults, which never falls, did besides
abbrev pub WriteCause : Result (Unit {0}) WriteRefused → ℕ → ℕ → Type 0
WriteCause (Ok _) before now = ⊤
WriteCause (Err Failed) before now = Rose before now
WriteCause (Err Memory) before now = ⊤
