-- The work of a session that runs its script.
use Rattle.std.specs.Prelude.{◌≡◌, ℕ, ◌+◌, ◌≤◌, List, [], ◌∷◌, All, length, vec_capacity, ⊤}
use Rattle.script.specs.Fitting.{RisesFrom}
use Rattle.script.specs.declared.commands.ScriptLine.{ScriptLine}
use Rattle.conformance.specs.Saves.{saved_in}
use Rattle.conformance.specs.sessions.Ran.{SessionRan}
use Rattle.conformance.specs.sessions.Runs.{RunsScript}
use Rattle.conformance.specs.sessions.Saves.{saves_asked_in, versions_of}
use Rattle.conformance.specs.sessions.SessionViews.{none_noted}
use Rattle.session.specs.Resting.{IsAtRest}
use Rattle.session.specs.Saves.{SeatHoldsMore, SeatHoldsPins, pinned_versions}
use Rattle.session.specs.Scripts.{IsFresh}
use Rattle.session.specs.SessionWorlds.{AreLinesOfWorld, SessionWorld, of_world, session_view}
use Rattle.world_run.specs.declared.rooms.ScriptRoom.{ScriptRoom}
use Rattle.world_run.specs.declared.works.SessionWork.{SessionWork}

-- nothing was pinned in it
abbrev pub IsEmptyRoom : ScriptRoom → Type 0
IsEmptyRoom room = room.pins.items ≡ []

-- the lists are empty, and have room for what may come of the script
pub record IsRoomFor (script : List ScriptLine) (room : ScriptRoom) : Type 0 where
  pub no_answer : room.answers.items ≡ []
  pub answers : length script ≤ vec_capacity room.answers
  pub no_save : room.saves.items ≡ []
  pub saves : saves_asked_in script ≤ vec_capacity room.saves
  pub no_pin : room.pins.items ≡ []
  pub pins : saves_asked_in script ≤ vec_capacity room.pins
  pub few : saves_asked_in script ≤ 1024

-- the session has done nothing, and there is room for all that comes
pub record MayWork (w : SessionWork) : Type 0 where
  pub rest : IsAtRest w.world.now.table w.session
  pub fresh : IsFresh w.session.view
  pub rises : RisesFrom 1 w.script.now
  pub fit : AreLinesOfWorld w.world.now w.script.now
  pub room : IsRoomFor w.script.now w.room

-- the session ran its script, and holds what it saved
pub record Worked (old new : SessionWork) : Type 0 where
  pub saves : new.room.saves ≡ old.room.saves
  pub rest : IsAtRest old.world.now.table new.session
  pub ran : (number : ℕ) → old.session.view.numbers ≡ number ∷ [] → RunsScript
      (of_world old.world.now number) old.script.now old.room.answers.items
      new.room.answers.items (session_view old.session.view) (session_view new.session.view)
      (pinned_versions old.room.pins.items) (pinned_versions new.room.pins.items)
  pub holds : SeatHoldsMore old.world.now.table new.session.view old.room.pins.items
      new.room.pins.items

-- the work is that of the session of this number in this world, and of this script
pub record IsWorkOf (t : SessionWorld) (script : List ScriptLine) (number : ℕ) (w : SessionWork)
    : Type 0 where
  pub world : w.world.now ≡ t
  pub script_is : w.script.now ≡ script
  pub number_is : w.session.view.numbers ≡ number ∷ []
  pub noted : (session_view w.session.view).noted ≡ none_noted
  pub may : MayWork w

-- it is done
pub record IsDoneOf (t : SessionWorld) (script : List ScriptLine) (number : ℕ) (w : SessionWork)
    : Type 0 where
  pub rest : IsAtRest t.table w.session
  pub ran : SessionRan (of_world t number) script w.room.answers.items none_noted
      (session_view w.session.view)
  pub holds : SeatHoldsPins t.table w.session.view w.room.pins.items
  pub versions : pinned_versions w.room.pins.items
      ≡ versions_of (saved_in script w.room.answers.items)
  pub no_save : w.room.saves.items ≡ []
  pub saves : saves_asked_in script ≤ vec_capacity w.room.saves
  pub few : saves_asked_in script ≤ 1024

-- the works are those of the sessions from this number on
abbrev pub AreWorks : SessionWorld → ℕ → List (List ScriptLine) → List SessionWork → Type 0
AreWorks t first [] [] = ⊤
AreWorks t first (script ∷ scripts) (w ∷ works) =
    IsWorkOf t script first w × AreWorks t (first + 1) scripts works
AreWorks t first _ _ = ⊥

abbrev pub AreDone : SessionWorld → ℕ → List (List ScriptLine) → List SessionWork → Type 0
AreDone t first [] [] = ⊤
AreDone t first (script ∷ scripts) (w ∷ works) =
    IsDoneOf t script first w × AreDone t (first + 1) scripts works
AreDone t first _ _ = ⊥
