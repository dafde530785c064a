-- What a world is closed over, and why it isn't closed.
use Rattle.std.specs.Prelude.{◌≡◌, ◌≢◌, ◌<◌, ℕ, Bool, List, length, map, slice_index}
use Rattle.history_model.specs.Stores.{store_has}
use Rattle.core_laws.specs.places.WordIds.{levels}
use Rattle.core_laws.specs.contents.Aligned.{world_block}
use Rattle.core_laws.specs.contents.Versions.{HoldsVersion}
use Rattle.core_laws.specs.contents.Contents.{HasContents}
use Rattle.node_table.specs.TableStates.{PassState, TableState}
use Rattle.node_table.specs.Closed.{Closed}
use Rattle.vox_read.specs.Contents.{Content}
use Rattle.history_model.specs.Logs.{Log}
use Rattle.node_words.specs.Plans.{Layout}
use Rattle.conformance.specs.sessions.Ran.{ClosesWorld}
use Rattle.conformance.specs.sessions.SessionViews.{SessionView}
use Rattle.session.specs.SessionWorlds.{SessionWorld, session_view}
use Rattle.session.specs.declared.closes.CloseRefused.{CloseRefused}
use Rattle.session.specs.declared.closes.CloseRefused.TheVariants.{Count, Memory}

-- what a closed table left, with a history that is as coloured as this: the table keeps cells alone
abbrev pub coloured_as : Bool → Closed → Closed
coloured_as coloured closed = record {
  history = record {
    side = closed.history.side;
    coloured = coloured;
    records = closed.history.records;
    marks = closed.history.marks;
  };
  roots = closed.roots;
  live = closed.live;
}

-- what each session saw and did
abbrev pub session_views : List PassState → List SessionView
session_views sessions = map (λ s. session_view s.view) sessions

-- these sessions had one history, with which their world could be closed
pub record HadHistory (tint : Bool) (p : Layout) (models : List Content)
    (sessions : List SessionView) : Type 0 where
  pub log : Log
  pub closes : ClosesWorld tint p models sessions log

-- the live entries of each level are as many as the blocks that versions have there which are kept
abbrev pub CountsLive : TableState → Closed → Type 0
CountsLive t e = (level : ℕ) → level < levels t.plan → HasContents (world_block t.plan.side)
    (λ v. store_has t.models e.history v) (HoldsVersion e.history) level (slice_index e.live level)

-- its sessions are not as many as were made, or they are, and there was no memory. The world and
-- all sessions come back as they were
abbrev pub RefusesWorld : SessionWorld → List PassState → CloseRefused → Type 0
RefusesWorld w sessions (Count world back made) =
    (length sessions ≢ w.table.made) × (made ≡ w.table.made) × (world ≡ w) × (back.items ≡ sessions)
RefusesWorld w sessions (Memory world back) =
    (length sessions ≡ w.table.made) × (world ≡ w) × (back.items ≡ sessions)
