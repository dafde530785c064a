use Rattle.std.proofs.Common.{refl, subst}
use Rattle.vw_cell.specs.declared.balls.Ball as balls
use Rattle.history_model.specs.declared.acts.Act.TheVariants.{Ball}
use Rattle.voxdag_c.specs.held.Calls.{WorldChanges, act_here}
use Rattle.voxdag_c.specs.held.Places.{ball_of}
use Rattle.voxdag_c.proofs.OfHeld.Kinds.{outside_here}
use Rattle.voxdag_c.proofs.OfHeld.Fitting.{ball_fits, ball_leaves}
use Rattle.voxdag_c.proofs.held.worlds.CWorld.ball.Goals as goal

pub change_here-requires-clause-fits : goal.change_here-requires-clause-fits
change_here-requires-clause-fits c =
    ball_fits c.side.result _ c.side.ensures c.args.centre c.args.radius c.in-Some.ball c.in-Some.ensures.value c.in-Some.ensures.exactly

pub returns-in-Some : goal.returns-in-Some
returns-in-Some c =
    subst
    (λ (b : balls.Ball). WorldChanges c.args.self.now
    (act_here c.args.self.now (Ball b)) c.change_here.result c.change_here.new.self) c.in-Some.ensures.value c.change_here.ensures

pub returns-in-None : goal.returns-in-None
returns-in-None c =
    outside_here c.args.self.now (Ball (ball_of c.args.centre c.args.radius)) refl tt
    (ball_leaves c.side.result _ c.side.ensures c.args.centre c.args.radius c.in-None.ensures.exactly)
