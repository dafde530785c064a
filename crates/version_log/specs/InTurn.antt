-- What calls under the log's turn begin with and leave.
use Rattle.std.specs.Prelude.{◌≡◌, ◌<◌, ◌≤◌, ℕ, Option}
use Rattle.history_model.specs.declared.acts.Act.{Act}
use Rattle.history_model.specs.Worlds.{World}
use Rattle.node_words.specs.declared.shapes.names.Name.{Name}
use Rattle.node_words.specs.shapes.Weights.{number_of_trees}
use Rattle.table_rule.specs.LogFacts.{number_seen}
use Rattle.table_rule.specs.Views.{SeatView}
use Rattle.node_table.specs.Acts.{OnlySharesChange}
use Rattle.node_table.specs.LogTurns.{HasLogTurn, LearnsLog, log_left}
use Rattle.node_table.specs.TableStates.{PassState, TableState}
use Rattle.undo.specs.declared.cursor.UndoCursor.{UndoCursor}
use Rattle.version_log.specs.Commits.{AppendsNext}
use Rattle.version_log.specs.Roots.{GetsRoot, HoldsRootOf}
use Rattle.version_log.specs.Seeing.{StandsFree}
use Rattle.version_log.specs.Targets.{IsNextCursor}

-- the pass has the log's turn, and this many records are seen
pub record HasTurnAt (t : TableState) (s : PassState) (n : ℕ) : Type 0 where
  pub turn : HasLogTurn t s
  pub at : n ≡ number_seen s.view

-- and there is room for one more
pub record MayAppendAt (t : TableState) (s : PassState) (n : ℕ) : Type 0 where
  pub turn : HasLogTurn t s
  pub at : n ≡ number_seen s.view
  pub room : n < 65535

-- words of the log were learned under the turn, and nothing else changed
pub record LearnsInTurn (t : TableState) (v : SeatView) (s : PassState) : Type 0 where
  pub turn : HasLogTurn t s
  pub learns : LearnsLog v s.view

-- and by them the history stands there behind the act
pub record FindsCursor (t : TableState) (v : SeatView) (act : Act) (c : UndoCursor)
    (s : PassState) : Type 0 where
  pub turn : HasLogTurn t s
  pub learns : LearnsLog v s.view
  pub stands : IsNextCursor v.log.seen.records act c

-- a share of the root of these cells was taken under the turn, where there is a root
pub record TakesRoot (v : SeatView) (name : Option Name) (cells : World) (w : SeatView)
    : Type 0 where
  pub only : OnlySharesChange v w
  pub root : HoldsRootOf w name cells
  pub gains : GetsRoot v.held name w.held

-- record n was appended, the turn is kept, and no more trees are held
pub record AppendsInTurn (t : TableState) (v : SeatView) (line : ℕ) (act : Act)
    (root : Option Name) (n : ℕ) (s : PassState) : Type 0 where
  pub turn : HasLogTurn t s
  pub appends : AppendsNext v line act root n (log_left s.view)
  pub number : n ≡ number_seen s.view
  pub fewer : number_of_trees s.view.held ≤ number_of_trees v.held
  pub met_nobody : s.view.log.busy ≡ v.log.busy

-- the turn was given back, and nobody was met that had it
pub record GivesTurnBack (t : TableState) (v : SeatView) (s : PassState) : Type 0 where
  pub free : StandsFree t s
  pub met_nobody : s.view.log.busy ≡ v.log.busy
