-- The first record of a history that breaks the rules of a legal one.
use Rattle.std.specs.Prelude.{◌≡◌, ◌↔◌, ℕ, ◌+◌, ◌^◌, ◌<◌, ◌≤◌, List, [], ◌∷◌, ◌++◌, length, slice_index, Option, Some, None}
use Rattle.vox_read.specs.Contents.{Content}
use Rattle.history_model.specs.declared.acts.Act.{Act}
use Rattle.history_model.specs.declared.histories.Mark.{Mark}
use Rattle.history_model.specs.declared.histories.Record.{Record}
use Rattle.history_model.specs.Logs.{Log, FitsWorld, IsVersionHeld, MayFollow}
use Rattle.history_model.specs.Positions.{Position}
use Rattle.store_run.specs.Replaying.{AreLegalRecords}

-- records up to the one before it keep the rules, and with it they don't
pub record IsFirstIllegal (side : ℕ) (models : List Content) (log : Log) (n : ℕ) : Type 0 where
  pub front : List Record
  pub bad : Record
  pub rest : List Record
  pub whole : log.records ≡ front ++ bad ∷ rest
  pub number : n ≡ length front + 1
  pub legal : AreLegalRecords side models log.marks front
  pub breaks : AreLegalRecords side models log.marks (front ++ bad ∷ []) → ⊥

-- the first record that breaks a rule, where one does
abbrev pub FindsIllegal : ℕ → List Content → Log → Option ℕ → Type 0
FindsIllegal side models log None = AreLegalRecords side models log.marks log.records
FindsIllegal side models log (Some n) = IsFirstIllegal side models log n

-- ---- a table of the moments from which on no record goes to a version

-- record n can go to a version, as far as its marks go, just where n isn't over its moment
pub record TellsEnds (marks : List Mark) (ends : List ℕ) : Type 0 where
  pub long : length ends ≡ 65536
  pub each : (v n : ℕ) → v < 65536 → n < 2 ^ 32
      → IsVersionHeld marks n v ↔ (n ≤ slice_index ends v)

-- a version comes first, and record n can go to it by the table
abbrev pub IsOpen : List ℕ → ℕ → Option ℕ → Type 0
IsOpen ends n None = ⊥
IsOpen ends n (Some to) = n ≤ slice_index ends to

-- a record of this number can come behind those that led to this position
pub record CanCome (side : ℕ) (models : List Content) (marks : List Mark) (n : ℕ) (act : Act)
    (before : Position) : Type 0 where
  pub few : n ≤ 65535
  pub fits : FitsWorld side models act
  pub may : MayFollow marks n act before
