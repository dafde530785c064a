use Rattle.std.proofs.Common.{◌≡◌, ◌≤◌, length, vec_len}
use Rattle.node_table.specs.TableStates.{SamePass}
use Rattle.session.specs.Resting.{IsAtRest}
use Rattle.session.specs.Saves.{HoldsSaves}
use Rattle.session.specs.SessionWorlds.{session_view}
use Rattle.session.proofs.saves.unpin_over.Given as goal

abbrev pub invariant-loop-pin : goal.invariant-loop-pin
invariant-loop-pin g l = record {
  rest : IsAtRest l.world.table l.s;
  same : SamePass l.fn.s l.s;
  seen : session_view l.s.view ≡ session_view l.fn.s.view;
  holds : HoldsSaves l.world.table (session_view l.s.view) l.s.view.held l.saves.items;
  few : length l.saves.items ≤ 3900;
}

abbrev pub decreases-loop-pin : goal.decreases-loop-pin
decreases-loop-pin g l = vec_len l.saves
