use Rattle.std.proofs.Common.{◌≡◌, []}
use Rattle.std.proofs.lemmas.List.Elements.{All-rest}
use Rattle.node_table.specs.LogTurns.{HasNoTurn}
use Rattle.node_table.specs.TableStates.{PassState}
use Rattle.world_run.proofs.endings.end_all.Goals as goal

pub loop-session-preserved : goal.loop-session-preserved
loop-session-preserved c = record {
  held = All-rest
      (λ (s : PassState). s.view.held
      ≡ []) c.in-Some.session _ _ c.in-Some.ensures.items c.loop-session.invariant.held;
  idle = All-rest
      (λ (s : PassState). HasNoTurn s.view) c.in-Some.session _ _ c.in-Some.ensures.items c.loop-session.invariant.idle;
}
