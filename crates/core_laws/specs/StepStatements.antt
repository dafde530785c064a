-- What the laws say of steps.
use Rattle.std.specs.Prelude.{◌≡◌, ◌≢◌, ℕ, ◌≤◌, List, length, ◌^◌}
use Rattle.vw_cell.specs.declared.cells.Cell.{Cell}
use Rattle.core_laws.specs.HistoryModelContents.{Content}
use Rattle.node_words.specs.declared.shapes.names.Name.{Name}
use Rattle.node_words.specs.Plans.{Layout}
use Rattle.core_laws.specs.Stores.{stored_in}
use Rattle.core_laws.specs.States.{State, IsLive, tree_of, IsUnder, Holds}
use Rattle.core_laws.specs.Soundness.{SoundEntries, Sound}
use Rattle.core_laws.specs.Events.{KeysStay, StoreStep, Frees}
use Rattle.core_laws.specs.LogEvents.{Step, Reseats}

-- each step of a store keeps its entries sound
abbrev pub StoreStepsKeepEntriesSound : Type 0
StoreStepsKeepEntriesSound = (p : Layout) (holder : ℕ) (old new : State) → SoundEntries p old
    → StoreStep p holder old new → SoundEntries p new

-- each step of a store keeps the keys of entries that stay live
abbrev pub StoreStepsKeepKeys : Type 0
StoreStepsKeepKeys = (p : Layout) (holder : ℕ) (old new : State) → StoreStep p holder old new
    → KeysStay p old new

-- an entry that stays live keeps its tree, where those that stay live keep their keys
abbrev pub LiveTreesStay : Type 0
LiveTreesStay = (p : Layout) (old new : State) (n : Name) → SoundEntries p old → SoundEntries p new
    → KeysStay p old new → IsLive p old n → IsLive p new n → tree_of new n ≡ tree_of old n

-- an entry is live still, and has its tree
pub record IsSpared (p : Layout) (old new : State) (n : Name) : Type 0 where
  pub live : IsLive p new n
  pub tree : tree_of new n ≡ tree_of old n

-- what stands at or below a share is spared by the steps of all others
abbrev pub SharesAreSpared : Type 0
SharesAreSpared = (p : Layout) (holder other : ℕ) (n m : Name) (old new : State)
    → SoundEntries p old
    → StoreStep p holder old new → other ≢ holder → Holds old.held other n → IsUnder old.key m n
    → IsSpared p old new m

-- an entry leaves by the step alone that finds its book at 1, and its children are then the
-- holder's
abbrev pub EntriesLeaveByTheirLastShare : Type 0
EntriesLeaveByTheirLastShare = (p : Layout) (holder : ℕ) (n : Name) (old new : State)
    → StoreStep p holder old new
    → IsLive p old n → new.book n ≡ 0 → (old.book n ≡ 1) × Frees p holder n old new

-- each step keeps a state sound
abbrev pub StepsKeepSoundness : Type 0
StepsKeepSoundness = (p : Layout) (models : List Content) (holder : ℕ) (old new : State)
    → 2 ≤ p.side
    → Sound p models old → Step p models holder old new → Sound p models new

-- each step is one of the store
abbrev pub StepsAreStoreSteps : Type 0
StepsAreStoreSteps = (p : Layout) (models : List Content) (holder : ℕ) (old new : State)
    → Step p models holder old new → StoreStep p holder old new

-- a state stays sound where holders come, go or hand over
abbrev pub ReseatingKeepsSoundness : Type 0
ReseatingKeepsSoundness = (p : Layout) (models : List Content) (old new : State)
    → Sound p models old
    → Reseats p old new → Sound p models new

-- no step changes a cell of a version
abbrev pub StepsKeepCells : Type 0
StepsKeepCells =
    (p : Layout) (models : List Content) (holder : ℕ) (old new : State) (v : ℕ) (q : Cell)
    → Step p models holder old new → v ≤ length old.log.records
    → stored_in (2 ^ p.side) models new.log.records v q
    ≡ stored_in (2 ^ p.side) models old.log.records v q
