use Rattle.std.proofs.Common.{refl, subst}
use Rattle.vw_cell.specs.declared.boxes.Boxed.{Boxed}
use Rattle.history_model.specs.declared.acts.Act.TheVariants.{Fill}
use Rattle.voxdag_c.specs.held.Calls.{WorldChanges, act_here}
use Rattle.voxdag_c.specs.held.Places.{box_of}
use Rattle.voxdag_c.proofs.OfHeld.Kinds.{outside_here}
use Rattle.voxdag_c.proofs.OfHeld.Fitting.{box_fits, box_leaves}
use Rattle.voxdag_c.proofs.held.worlds.CWorld.fill.Goals as goal

pub change_here-requires-clause-fits : goal.change_here-requires-clause-fits
change_here-requires-clause-fits c =
    box_fits c.side.result _ c.side.ensures c.args.part c.in-Some.b c.in-Some.ensures.value c.in-Some.ensures.exactly

pub returns-in-Some : goal.returns-in-Some
returns-in-Some c =
    subst
    (λ (b : Boxed). WorldChanges c.args.self.now
    (act_here c.args.self.now (Fill b)) c.change_here.result c.change_here.new.self) c.in-Some.ensures.value c.change_here.ensures

pub returns-in-None : goal.returns-in-None
returns-in-None c =
    outside_here c.args.self.now (Fill (box_of c.args.part)) refl tt
    (box_leaves c.side.result _ c.side.ensures c.args.part c.in-None.ensures.exactly)
