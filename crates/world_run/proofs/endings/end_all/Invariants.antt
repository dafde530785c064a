use Rattle.std.proofs.Common.{◌≡◌, []}
use Rattle.std.specs.Prelude.{All}
use Rattle.std.specs.Vec.Iter.{into_iter_items, into_iter_len}
use Rattle.node_table.specs.LogTurns.{HasNoTurn}
use Rattle.world_run.proofs.endings.end_all.Given as goal

abbrev pub invariant-loop-session : goal.invariant-loop-session
invariant-loop-session l = record {
  held : All (λ s. s.view.held ≡ []) (into_iter_items l.sessions);
  idle : All (λ s. HasNoTurn s.view) (into_iter_items l.sessions);
}

abbrev pub decreases-loop-session : goal.decreases-loop-session
decreases-loop-session l = into_iter_len l.sessions
