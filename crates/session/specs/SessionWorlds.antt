-- A session's pass as what the session has seen and done.
use Rattle.std.specs.Prelude.{◌≡◌, ℕ, ◌^◌, ◌≤◌, Bool, true, false, List, [], ◌∷◌, All}
use Rattle.vw_cell.specs.declared.boxes.Boxed.{Boxed}
use Rattle.vw_cell.specs.Places.{FitsAt}
use Rattle.act_rebuilds.specs.Drawn.{WorldModels}
use Rattle.history_model.specs.declared.acts.Act.{Act}
use Rattle.history_model.specs.Logs.{Log, side_of_world}
use Rattle.history_model.specs.Worlds.{is_edit}
use Rattle.table_rule.specs.LogViews.{LogView}
use Rattle.table_rule.specs.Views.{SeatView}
use Rattle.node_table.specs.TableStates.{TableState}
use Rattle.script.specs.declared.commands.ScriptLine.{ScriptLine}
use Rattle.script.specs.Fitting.{CommandFits, EditFits}
use Rattle.conformance.specs.sessions.Calls.{KnowsOwn}
use Rattle.conformance.specs.sessions.SessionViews.{SessionOf, SessionView, MayTint, session_keeping}

-- the log that was seen, as a history; whether it is of a coloured one its world says
abbrev pub log_seen : LogView → Log
log_seen view = record {
  side = view.seen.side;
  coloured = false;
  records = view.seen.records;
  marks = view.seen.marks;
}

abbrev pub session_view : SeatView → SessionView
session_view v = record {
  log = log_seen v.log;
  records = v.log.records;
  marks = v.log.marks;
  found = v.log.found;
  noted = record { made = v.made; met = v.met };
}

-- a world as contracts see it: its table, whether its cells have tints, and how many last versions
-- alone it holds, or 0 for all
pub record SessionWorld : Type 0 where
  pub table : TableState
  pub tint : Bool
  pub keep : ℕ

-- what a world keeps beside its table: the table's models, drawn by their tints where its cells
-- have tints, which a store of the table's plan then can keep
pub record KeepsTableModels (t : TableState) (tint : Bool) (drawn : WorldModels) : Type 0 where
  pub drawn_as : drawn.tint ≡ tint
  pub drawn_are : drawn.models ≡ t.models
  pub may : MayTint tint t.plan t.models

-- the side of the world, which is a quarter of its store's where its cells have tints
abbrev pub side_seen : SessionWorld → ℕ
side_seen w = side_of_world w.tint (2 ^ w.table.plan.side)

-- the act lies in the world, its model is one of the world's, and it is tinted exactly where cells
-- have tints, or it is an undo or a redo
abbrev pub IsActOf : SessionWorld → Act → Type 0
IsActOf w act = EditFits w.tint (2 ^ w.table.plan.side) w.table.models act

-- and it is an edit
pub record IsEditOf (w : SessionWorld) (act : Act) : Type 0 where
  pub fits : IsActOf w act
  pub edit : is_edit act ≡ true

-- the box lies in the world, and is small enough for a list of its cells
pub record MayBeListed (w : SessionWorld) (b : Boxed) : Type 0 where
  pub inside : FitsAt b.at b.size (side_seen w)
  pub small : (b.size.x ≤ 256) × (b.size.y ≤ 256) × (b.size.z ≤ 256)

-- what these lines ask for lies in the world, and so does each model
abbrev pub AreLinesOfWorld : SessionWorld → List ScriptLine → Type 0
AreLinesOfWorld w lines =
    All (λ l. CommandFits w.tint (2 ^ w.table.plan.side) w.table.models l.command) lines

-- the session of this number in this world
abbrev pub of_world : SessionWorld → ℕ → SessionOf
of_world w number = session_keeping w.keep w.tint w.table.plan w.table.models number

-- of the marks that it has seen, its own are those that it lists
abbrev pub KnowsItself : SeatView → Type 0
KnowsItself v = (number : ℕ) → v.numbers ≡ number ∷ [] → KnowsOwn number (session_view v)
