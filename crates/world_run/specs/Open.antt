-- What contracts see of a run whose sessions all ran their scripts, in a world that isn't closed.
use Rattle.std.specs.Prelude.{◌≡◌, ℕ, ◌^◌, ◌<◌, ◌≤◌, Bool, Some, List, [], ◌∷◌, ◌++◌, All, length, map}
use Rattle.std.specs.List.{slice_get}
use Rattle.vox_read.specs.Contents.{Content}
use Rattle.history_model.specs.Logs.{Log, side_of_world}
use Rattle.history_model.specs.Stores.{store_has}
use Rattle.node_words.specs.Plans.{Layout}
use Rattle.session.specs.Roots.{stored_file}
use Rattle.script.specs.Fitting.{SaveFits}
use Rattle.conformance.specs.declared.saves.SavedBox.{SavedBox}
use Rattle.node_table.specs.TableStates.{TableState}
use Rattle.conformance.specs.sessions.LoggedSaves.{LoggedSave, logged_at}
use Rattle.conformance.specs.sessions.Saves.{versions_of}
use Rattle.conformance.specs.sessions.SessionViews.{SessionView}
use Rattle.session.specs.Resting.{IsAtRest}
use Rattle.session.specs.Saves.{SeatHoldsPins, pinned_versions}
use Rattle.session.specs.SessionWorlds.{session_view}
use Rattle.world_run.specs.declared.open_runs.SavedSession.{SavedSession}
use Rattle.world_run.specs.declared.open_runs.SaveIndex.{SaveIndex}

-- the plan, whether cells have tints, the models, what each session saw and did, and what was
-- saved, in order
pub record RunState : Type 0 where
  pub plan : Layout
  pub tint : Bool
  pub models : List Content
  pub sessions : List SessionView
  pub kept : List LoggedSave

-- the file of a save: that of its box at its version, by the store's cells in the history that its
-- session saw, with tints where cells have them
abbrev pub file_of_save : Bool → List Content → LoggedSave → List ℕ
file_of_save tint models k =
    stored_file tint k.seen.side k.save.part (store_has models k.seen k.save.version)

-- the save stands at this place
pub record SavesAt (kept : List LoggedSave) (k : ℕ) (save : SavedBox) : Type 0 where
  pub seen : Log
  pub at : slice_get kept k ≡ Some (record { save = save; seen = seen })

-- the session holds the roots of the versions that it saved, and nothing else, and a file can be
-- made of each save
pub record IsSaved (tint : Bool) (w : TableState) (s : SavedSession) : Type 0 where
  pub rest : IsAtRest w s.session
  pub holds : SeatHoldsPins w s.session.view s.pins.items
  pub versions : pinned_versions s.pins.items ≡ versions_of s.saves.items
  pub fit : All (λ b. SaveFits (side_of_world tint (2 ^ w.plan.side)) b.name b.part) s.saves.items
  pub few : length s.saves.items ≤ 1024

abbrev pub saved_seen : List SavedSession → List SessionView
saved_seen sessions = map (λ s. session_view s.session.view) sessions

-- what was saved, session by session
abbrev pub logged_in : List SavedSession → List LoggedSave
logged_in [] = []
logged_in (s ∷ sessions) =
    map (logged_at (session_view s.session.view).log) s.saves.items ++ logged_in sessions

-- the save of this number is that of this session at this place
pub record HasSave (sessions : List SavedSession) (k : ℕ) (p : SaveIndex) : Type 0 where
  pub session : p.session < length sessions
  pub each : (s : SavedSession) → slice_get sessions p.session ≡ Some s
      → (p.save < length s.saves.items)
      × ((b : SavedBox) → slice_get s.saves.items p.save ≡ Some b
      → slice_get (logged_in sessions) k ≡ Some (logged_at (session_view s.session.view).log b))
