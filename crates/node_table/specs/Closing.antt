-- What a table leaves that is closed.
use Rattle.std.specs.Prelude.{◌≡◌, ◌≢◌, ℕ, ◌^◌, ◌<◌, ◌≤◌, false, Some, None, List, [], ◌∷◌, ◌++◌, map, length, slice_index, All}
use Rattle.std.specs.List.{AllPairs, Contains, slice_get, sum_by}
use Rattle.history_model.specs.Logs.{Log, IsLegal}
use Rattle.history_model.specs.declared.histories.Mark.{Mark}
use Rattle.table_rule.specs.LogKnowing.{IsPrefix, WasFound, numbered_from}
use Rattle.table_rule.specs.Listing.{Accepted, Found}
use Rattle.node_words.specs.Enough.{HasEnough}
use Rattle.node_words.specs.Held.{Wanted}
use Rattle.node_words.specs.Plans.{Layout}
use Rattle.core_laws.specs.places.WordIds.{levels}
use Rattle.core_laws.specs.contents.Versions.{HoldsVersion}
use Rattle.core_laws.specs.States.{State}
use Rattle.core_laws.specs.Soundness.{Sound}
use Rattle.core_laws.specs.Blocks.{IsIdle, live_number}
use Rattle.table_rule.specs.Views.{SeatView}
use Rattle.table_rule.specs.Knowing.{all_made}
use Rattle.node_table.specs.TableStates.{TableState, PassState, BelongsTo}
use Rattle.world_core.specs.declared.closed.Root.{Root}
use Rattle.world_core.specs.declared.closed.Closed.{Closed}
use Rattle.node_table.specs.declared.closed.TableCloseRefused.{TableCloseRefused}
use Rattle.node_table.specs.declared.closed.TableCloseRefused.TheVariants.{Count, Memory}

-- the pass is one of the table's, has neither turn and holds nothing
pub record IsSpare (t : TableState) (s : PassState) : Type 0 where
  pub of : BelongsTo t s
  pub turn : s.view.turn ≡ None
  pub log_turn : s.view.log.turn ≡ false
  pub held : s.view.held ≡ []

-- why a table is not closed: its passes are not as many as were made, or they are, and there was
-- no memory. The table and all passes come back as they were
abbrev pub RefusesClose : TableState → List PassState → TableCloseRefused → Type 0
RefusesClose t passes (Count table back made) =
    (length passes ≢ t.made) × (made ≡ t.made) × (table ≡ t) × (back.items ≡ passes)
RefusesClose t passes (Memory table back) =
    (length passes ≡ t.made) × (table ≡ t) × (back.items ≡ passes)

-- the root of each version that is kept, by rising version
pub record AreRoots (state : State) (roots : List Root) : Type 0 where
  pub rising : AllPairs (λ a b. a.version < b.version) roots
  pub kept : All (λ r. HoldsVersion state.log r.version) roots
  pub named : All (λ r. r.name ≡ state.root r.version) roots
  pub all : (v : ℕ) → HoldsVersion state.log v → Contains (map (λ r. r.version) roots) v

-- how many entries of each level are live, none above the levels of the world
pub record AreLiveNumbers (p : Layout) (state : State) (live : List ℕ) : Type 0 where
  pub as_many : length live ≡ 11
  pub each : (level : ℕ) → level < levels p
      → slice_index live level ≡ live_number p state level
  pub above : (level : ℕ) → levels p ≤ level → slice_index live level ≡ 0

-- the state that a closed table was in is sound, and nobody holds a share; its history, its roots
-- and the numbers of its live entries are told
pub record EndsTable (t : TableState) (closed : Closed) : Type 0 where
  pub state : State
  pub sound : Sound t.plan t.models state
  pub idle : IsIdle state
  pub history : closed.history ≡ state.log
  pub roots : AreRoots state closed.roots.items
  pub live : AreLiveNumbers t.plan state closed.live

abbrev pub views_of : List PassState → List SeatView
views_of passes = map (λ s. s.view) passes

-- of whatever met a full bucket, the passes together have made enough other shapes
pub record HadEnough (p : Layout) (passes : List PassState) : Type 0 where
  pub each : (k : ℕ) (s : PassState) → slice_get passes k ≡ Some s → (m : Wanted)
      → Contains s.view.met m → HasEnough p (all_made (views_of passes)) m.level m.bucket

-- the own records and marks of all seats, and what they found without a mark
abbrev pub all_records : List SeatView → List Accepted
all_records [] = []
all_records (v ∷ views) = v.log.records ++ all_records views

abbrev pub all_marks : List SeatView → List Mark
all_marks [] = []
all_marks (v ∷ views) = v.log.marks ++ all_marks views

abbrev pub all_found : List SeatView → List Found
all_found [] = []
all_found (v ∷ views) = v.log.found ++ all_found views

-- the history is the one of all sessions: each log that a pass has seen is a prefix of it, its
-- records and marks are those of the passes, each once, and what a pass found without a mark was so
pub record IsHistoryOfAll (history : Log) (passes : List PassState) : Type 0 where
  pub seen : (k : ℕ) (s : PassState) → slice_get passes k ≡ Some s
      → IsPrefix s.view.log.seen history
  pub records : (f : Accepted → ℕ)
      → sum_by f (all_records (views_of passes)) ≡ sum_by f (numbered_from 1 history.records)
  pub marks : (f : Mark → ℕ) → sum_by f (all_marks (views_of passes)) ≡ sum_by f history.marks
  pub found : (k : ℕ) (s : PassState) → slice_get passes k ≡ Some s → (f : Found)
      → Contains s.view.log.found f → WasFound history f

-- the passes have one history of them all: it is legal, and of whatever met a full bucket they
-- together have made enough other shapes
pub record HaveHistory (t : TableState) (passes : List PassState) : Type 0 where
  pub log : Log
  pub legal : IsLegal (2 ^ t.plan.side) t.models log
  pub tells : IsHistoryOfAll log passes
  pub enough : HadEnough t.plan passes
