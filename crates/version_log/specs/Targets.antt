-- Where undos and redos go, and where the history stands after the next act.
use Rattle.std.specs.Prelude.{◌≡◌, ◌≤◌, ◌^◌, ℕ, Option, None, List, [], ◌∷◌, ◌++◌, IfSome}
use Rattle.history_model.specs.declared.acts.Act.{Act}
use Rattle.history_model.specs.declared.acts.Act.TheVariants.{Undo, Redo}
use Rattle.history_model.specs.declared.histories.Record.{Record}
use Rattle.history_model.specs.Packing.{last_edit}
use Rattle.history_model.specs.Positions.{position_after}
use Rattle.history_model.specs.Worlds.{World}
use Rattle.node_words.specs.declared.shapes.names.Name.{Name}
use Rattle.node_table.specs.Making.{Makes}
use Rattle.table_rule.specs.Views.{SeatView}
use Rattle.undo.specs.declared.cursor.UndoCursor.{UndoCursor}
use Rattle.undo.specs.Standings.{version_of}
use Rattle.undo.specs.Targets.{past_top, future_top}
use Rattle.version_log.specs.declared.lookahead.Lookahead.{Lookahead}
use Rattle.version_log.specs.Roots.{HoldsRootOf}

-- the version that an undo or a redo goes to; an edit goes to none
abbrev pub act_target : List Record → Act → Option ℕ
act_target records Undo = past_top records
act_target records Redo = future_top records
act_target records edit = None

-- a record with this act
abbrev pub with_act : ℕ → ℕ → Act → Record
with_act session line act = record { session = session; line = line; act = act }

-- once a record with this act is appended this version stands, and this is the last edit
pub record NextCursor (records : List Record) (act : Act) (now last : ℕ) : Type 0 where
  pub now_is : (session line : ℕ)
      → (position_after (records ++ with_act session line act ∷ [])).now ≡ now
  pub last_is : (session line : ℕ)
      → last_edit (records ++ with_act session line act ∷ []) ≡ last

-- the same of a standing that was looked up
pub record IsNextCursor (records : List Record) (act : Act) (s : UndoCursor) : Type 0 where
  pub next : NextCursor records act s.now s.last
  pub small : (s.now ≤ 65535) × (s.last ≤ 65535)

-- where an undo or a redo goes, and where the history then stands, as it was looked up
pub record FindsTarget (records : List Record) (act : Act) (found : Option UndoCursor)
    : Type 0 where
  pub target : version_of found ≡ act_target records act
  pub behind : IfSome found (IsNextCursor records act)

abbrev pub no_lookahead : Lookahead
no_lookahead = record { undo = None; redo = None }

-- what is kept for an act; nothing is for an edit
abbrev pub lookahead_for : Act → Lookahead → Option UndoCursor
lookahead_for Undo a = a.undo
lookahead_for Redo a = a.redo
lookahead_for edit a = None

abbrev pub with_lookahead : Act → Option UndoCursor → Lookahead → Lookahead
with_lookahead Undo behind a = record a { undo = behind }
with_lookahead Redo behind a = record a { redo = behind }
with_lookahead edit behind a = a

-- what is kept for the act, where something is, is right for these records
abbrev pub KnowsNext : List Record → Act → Lookahead → Type 0
KnowsNext records act a = IfSome (lookahead_for act a) (IsNextCursor records act)

-- the root shows just the cells that the act makes at the length that is seen; there is none
-- exactly where there are none
pub record IsMadeNow (v : SeatView) (act : Act) (root : Option Name) : Type 0 where
  pub cells : World
  pub holds : HoldsRootOf v root cells
  pub makes : Makes (2 ^ v.plan.side) v.models v.log.seen.records act cells
