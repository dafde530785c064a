use Rattle.std.proofs.Common.{sym, subst, arith, ◌≤◌, ◌-◌, [], Option}
use Rattle.node_words.specs.declared.shapes.names.Name.{Name}
use Rattle.history_model.specs.Worlds.{edited}
use Rattle.edit_walk.specs.cells.Worlds.{ShowsWorld}
use Rattle.edit_walk.proofs.OfCells.WorldLaws.{root_shown}
use Rattle.edit_ops.specs.Balls.{ball_act}
use Rattle.edit_ops.proofs.BallLaws.{ball_world}
use Rattle.edit_ops.proofs.rebuild.rebuild_ball_with.Goals as goal

pub rebuild_world-requires-clause-task : goal.rebuild_world-requires-clause-task
rebuild_world-requires-clause-task g c =
    let (before, w) = root_shown _ c.args.side _ c.requires.may.root_is in
    let held = (g.N.Blocks.seen c.args.store.now).held in
    let l : c.args.side - 2 ≤ 10 = omega arith in
    let v =
    subst (λ (o : Option Name). ShowsWorld held (c.args.side - 2) o before)
    (sym c.name_of.ensures) w in (
      edited [] (ball_act c.args.set c.args.ball.now) before,
      ball_world _ _ held c.args.set c.args.ball.now _ c.of_world-task.result before
          c.of_world-task.ensures l c.held-held.ensures.trees c.held-held.ensures.canonical v,
    )

pub returns-clause-made : goal.returns-clause-made
returns-clause-made g c before w =
    let held = (g.N.Blocks.seen c.args.store.now).held in
    let l : c.args.side - 2 ≤ 10 = omega arith in
    let v =
    subst (λ (o : Option Name). ShowsWorld held (c.args.side - 2) o before)
    (sym c.name_of.ensures) w in
    c.rebuild_world.ensures.made (edited [] (ball_act c.args.set c.args.ball.now) before)
    (ball_world _ _ held c.args.set c.args.ball.now _ c.of_world-task.result before
    c.of_world-task.ensures l c.held-held.ensures.trees c.held-held.ensures.canonical v)
