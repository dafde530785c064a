-- What the pure core keeps as plain lists, the state that these show, and when they are sound.
use Rattle.std.specs.Prelude.{◌≡◌, ℕ, ◌≤◌, Option, None, List, length, All, slice_index_or}
use Rattle.vox_read.specs.Contents.{Content}
use Rattle.node_words.specs.declared.shapes.names.Name.{Name}
use Rattle.node_words.specs.Plans.{Layout, IsPlan}
use Rattle.core_laws.specs.places.WordIds.{versions}
use Rattle.history_model.specs.Logs.{Log}
use Rattle.core_laws.specs.States.{State}
use Rattle.core_laws.specs.Soundness.{Sound}
use Rattle.world_core.specs.Slots.{BucketRow, IsLaidOut, read_lists}

-- the plan, the models that stamps name, the entries by level, bucket and slot, a root for each
-- version, the log, and the names that each session holds
pub record Stored : Type 0 where
  pub plan : Layout
  pub models : List Content
  pub entries : List BucketRow
  pub roots : List (Option Name)
  pub log : Log
  pub held : List (List Name)

-- the root of a version
abbrev pub root_in : List (Option Name) → ℕ → Option Name
root_in roots version = slice_index_or roots version None

-- the state that the lists show
abbrev pub stored_state : Stored → State
stored_state s = read_lists s.entries (root_in s.roots) s.log s.held

-- the lists are as long as the plan says, the state is sound, and each of at most 64 sessions holds
-- at most 4,096 shares
pub record IsStored (s : Stored) : Type 0 where
  pub plan : IsPlan s.plan
  pub laid : IsLaidOut s.plan s.entries
  pub places : length s.roots ≡ versions
  pub sound : Sound s.plan s.models (stored_state s)
  pub sessions : length s.held ≤ 64
  pub few : All (λ names. length names ≤ 4096) s.held
