-- What versions over a store of nodes are: models, records and marks, and a store that has the root
-- of each version which is kept in the place of its number.
use Rattle.std.specs.Prelude.{◌≡◌, ℕ, ◌+◌, ◌^◌, ◌<◌, ◌≤◌, Bool, Option, Some, None, List, All, length, slice_index_or, vec_len, vec_capacity, true, false, ⊤}
use Rattle.history_model.specs.declared.histories.Mark.{Mark}
use Rattle.history_model.specs.Logs.{Log, suits_tints}
use Rattle.history_model.specs.Positions.{position_after}
use Rattle.history_model.specs.Worlds.{World}
use Rattle.history_model.specs.Moments.{world_has, world_tint}
use Rattle.history_model.specs.Stores.{stored_in}
use Rattle.history_model.specs.Tints.{Tints}
use Rattle.node_words.specs.declared.shapes.names.Name.{Name}
use Rattle.node_words.specs.shapes.Tree.{Tree}
use Rattle.node_words.specs.shapes.Weights.{weigh, weight_of}
use Rattle.node_words.specs.Held.{IsHeld}
use Rattle.node_words.specs.Plans.{Layout}
use Rattle.one_store.specs.WordIds.{versions}
use Rattle.core_laws.specs.contents.MarkLists.{marks_below, AreOfVersions}
use Rattle.core_laws.specs.States.{State}
use Rattle.core_laws.specs.Soundness.{SoundVersions}
use Rattle.act_rebuilds.specs.Drawn.{HaveTints}
use Rattle.undo.specs.Trails.{trail_position, HasSlack}
use Rattle.one_store.specs.Known.{Known, core_of, root_tree}
use Rattle.conformance.specs.scripts.Keeping.{MadeAndMet}
use Rattle.store_run.specs.declared.stored_versions.Versions.{Versions}

abbrev pub plan_of : Versions → Layout
plan_of v = v.store.words.plan

-- the mark of each version that has one
abbrev pub mark_in : List (Option Mark) → ℕ → Option Mark
mark_in marks version = slice_index_or marks version None

abbrev pub log_of : Versions → Log
log_of v = record {
  side = v.side;
  coloured = v.models.tint;
  records = v.records.items;
  marks = marks_below (mark_in v.marks.items) versions;
}

-- how many records there are, the cells that the store keeps of a version, and the world of that
-- version with its tints
abbrev pub moment_of : Versions → ℕ
moment_of v = length v.records.items

abbrev pub stored_of : Versions → ℕ → World
stored_of v version = stored_in (2 ^ v.side) v.models.models v.records.items version

abbrev pub world_of : Versions → ℕ → World
world_of v version = world_has v.models.models v.records.items version

abbrev pub tints_of : Versions → ℕ → Tints
tints_of v version = world_tint v.models.models v.records.items version

-- the state of a core that they are read as
abbrev pub core_with : Log → Known → State
core_with log store = record {
  book = (core_of store).book;
  key = (core_of store).key;
  root = (core_of store).root;
  log = log;
  held = (core_of store).held;
}

-- what the store noted
abbrev pub noted_of : Versions → MadeAndMet
noted_of v = record { made = v.store.told.made; met = v.store.told.met }

-- a store of tints has a side of 16 cells or more, a power of two
abbrev pub IsLargeStore : Bool → ℕ → Type 0
IsLargeStore true side = 4 ≤ side
IsLargeStore false side = ⊤

-- the roots show the cells that the store keeps of their versions, each act is tinted exactly where
-- cells have tints, each mark stands at its version, and the trail is where the records lead
pub record AreStoredVersions (v : Versions) : Type 0 where
  pub side : v.side ≡ (plan_of v).side
  pub sound : SoundVersions (plan_of v) v.models.models (core_with (log_of v) v.store)
  pub suits : All (λ r. suits_tints v.models.tint r.act ≡ true) v.records.items
  pub large : IsLargeStore v.models.tint (plan_of v).side
  pub colours : HaveTints v.models.tint v.models.models
  pub places : length v.marks.items ≡ versions
  pub of_versions : AreOfVersions (mark_in v.marks.items)
  pub position : trail_position v.trail ≡ position_after v.records.items

-- and no act has a tint
pub record AreVersions (v : Versions) : Type 0 where
  pub stored : AreStoredVersions v
  pub plain : v.models.tint ≡ false

-- no share is held
pub record HoldsNothing (store : Known) : Type 0 where
  pub weighs : (f : Tree → ℕ) → weigh f store.told.held ≡ 0

-- the tree of the root is held, where there is one
pub record HoldsTree (store : Known) (root : Option Name) : Type 0 where
  pub each : (n : Name) → root ≡ Some n → IsHeld store.told.held (root_tree store (Some n))

-- besides what was held there is a share of the root, where there is one
pub record GainsTree (old : Known) (root : Option Name) (new : Known) : Type 0 where
  pub weighs : (f : Tree → ℕ)
      → weigh f new.told.held ≡ weight_of f (root_tree new root) + weigh f old.told.held

-- a share of the root is held no longer, where there is one
pub record LosesTree (old : Known) (root : Option Name) (new : Known) : Type 0 where
  pub weighs : (f : Tree → ℕ)
      → weight_of f (root_tree old root) + weigh f new.told.held ≡ weigh f old.told.held

-- what was held is held
pub record HoldsSame (old new : Known) : Type 0 where
  pub weighs : (f : Tree → ℕ) → weigh f new.told.held ≡ weigh f old.told.held

-- one more record has room
pub record HasRecordRoom (v : Versions) : Type 0 where
  pub record_room : vec_len v.records < vec_capacity v.records
  pub trail_room : HasSlack v.trail
