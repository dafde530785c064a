-- What the calls of the log's turn leave of the pass, and of a guard over it.
use Rattle.std.specs.Prelude.{◌≡◌}
use Rattle.std.specs.Borrow.{MutBor}
use Rattle.table_rule.specs.Views.{SeatView}
use Rattle.node_table.specs.LogTurns.{HasLogTurn, IsBusy, TakesLog}
use Rattle.node_table.specs.TableStates.{TableState, PassState, BelongsTo}

-- the log's turn came, and no other session was met that has it
pub record TakesAtOnce (t : TableState) (v : SeatView) (s : PassState) : Type 0 where
  pub turn : HasLogTurn t s
  pub takes : TakesLog t.made v s.view
  pub nobody : s.view.log.busy ≡ v.log.busy

-- the pass is left with no turn, and notes who has it
pub record LeavesBusy (t : TableState) (s r : PassState) : Type 0 where
  pub of : BelongsTo t r
  pub busy : IsBusy t.made s.view r.view

-- a guard's call: it is of the same table and over the same pass, which has the log's turn
pub record KeepsTurn (t u : TableState) (s r : MutBor PassState) : Type 0 where
  pub table : u ≡ t
  pub pass : r.ghost_name ≡ s.ghost_name
  pub turn : HasLogTurn u r.now
