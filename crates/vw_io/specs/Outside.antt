-- What the traits of the outside speak of: files by name, and a count of faults.
use Rattle.std.specs.Prelude.{◌≡◌, ◌≢◌, ℕ, ◌+◌, ◌-◌, ◌^◌, ◌≤◌, min, List, Option}

-- the bytes of the files, by the bytes of their names
abbrev pub Files : Type 0
Files = List ℕ → Option (List ℕ)

-- the count rose: it is greater than before, or stands at the last value of a `u64`
abbrev pub Rose : ℕ → ℕ → Type 0
Rose before now = min (before + 1) (2 ^ 64 - 1) ≤ now

-- the count is as before, and did not rise
abbrev pub Stayed : ℕ → ℕ → Type 0
Stayed before now = (now ≡ before) × ¬ Rose before now

-- every other name has what it had
abbrev pub SameElsewhere : Files → Files → List ℕ → Type 0
SameElsewhere before now name = (other : List ℕ) → other ≢ name → now other ≡ before other

-- a shelf as contracts see it: its files, where it tells them, and how often it has failed, up to
-- the last value of a `u64`
pub record ShelfState : Type 0 where
  pub files : Option Files
  pub faults : ℕ

-- the shelf has the files that it had, and its count didn't fall
pub record KeepsFiles (old new : ShelfState) : Type 0 where
  pub files : new.files ≡ old.files
  pub never_falls : old.faults ≤ new.faults

-- a sink: the bytes put so far, where it tells them, and how often it has failed
pub record SinkState : Type 0 where
  pub told : Option (List ℕ)
  pub faults : ℕ

-- all that is outside of a program: its files and its output
pub record Outside : Type 0 where
  pub shelf : ShelfState
  pub out : SinkState

abbrev pub outside : ShelfState → SinkState → Outside
outside shelf out = record { shelf = shelf; out = out }
