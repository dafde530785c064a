-- What is kept under the log's turn, from call to call.
use Rattle.std.specs.Prelude.{◌≡◌}
use Rattle.history_model.specs.declared.acts.Act.{Act}
use Rattle.node_table.specs.LogTurns.{HasLogTurn}
use Rattle.version_log.specs.declared.sures.Sure.{Sure}
use Rattle.version_log.specs.Targets.{KnowsNext}

-- what is kept of where an undo and a redo lead is as right as it was
abbrev pub KeepsLookahead : Sure → Sure → Type 0
KeepsLookahead s t = (act : Act) → KnowsNext s.pass.now.view.log.seen.records act s.ahead
    → KnowsNext t.pass.now.view.log.seen.records act t.ahead

-- a call of a sure turn: it is of the same table and over the same pass, which has the log's turn
pub record KeepsSure (s t : Sure) : Type 0 where
  pub pass : t.pass.ghost_name ≡ s.pass.ghost_name
  pub table : t.table.now ≡ s.table.now
  pub turn : HasLogTurn t.table.now t.pass.now
  pub ahead : KeepsLookahead s t
