use Rattle.std.proofs.Common.{refl}
use Rattle.history_model.specs.declared.acts.Act.TheVariants.{Copy}
use Rattle.voxdag_c.specs.held.Calls.{held_side}
use Rattle.voxdag_c.specs.held.Places.{box_of, cell_of_c_place}
use Rattle.voxdag_c.proofs.OfHeld.Kinds.{copied, outside_here}
use Rattle.voxdag_c.proofs.OfHeld.Fitting.{box_fits, box_leaves, copy_fits}
use Rattle.voxdag_c.proofs.held.worlds.CWorld.copy.Goals as goal

pub returns-in-None-box_in : goal.returns-in-None-box_in
returns-in-None-box_in c =
    outside_here c.args.self.now (Copy (box_of c.args.part) (cell_of_c_place c.args.to)) refl tt
    (λ f. box_leaves c.side-side.result _ c.side-side.ensures
    (record { at = c.args.to; size = c.args.part.size }) c.in-None-box_in.ensures.exactly f.1)

pub returns-in-None : goal.returns-in-None
returns-in-None c =
    outside_here c.args.self.now (Copy (box_of c.args.part) (cell_of_c_place c.args.to)) refl tt
    (λ f. box_leaves c.side-side.result _ c.side-side.ensures c.args.part c.in-None.ensures.exactly f.0)

pub change_here-requires-clause-fits : goal.change_here-requires-clause-fits
change_here-requires-clause-fits c =
    copy_fits (held_side c.args.self.now) c.args.part c.args.to c.in-Some.from c.in-Some-box_in.to c.in-Some.ensures.value c.in-Some-box_in.ensures.value
    (box_fits c.side-side.result _ c.side-side.ensures c.args.part c.in-Some.from c.in-Some.ensures.value c.in-Some.ensures.exactly)
    (box_fits c.side-side.result _ c.side-side.ensures
    (record { at = c.args.to; size = c.args.part.size }) c.in-Some-box_in.to c.in-Some-box_in.ensures.value c.in-Some-box_in.ensures.exactly)

pub returns-in-Some-box_in : goal.returns-in-Some-box_in
returns-in-Some-box_in c =
    copied c.args.self.now c.change_here.new.self c.change_here.result c.args.part c.args.to c.in-Some.from c.in-Some-box_in.to
    c.in-Some.ensures.value c.in-Some-box_in.ensures.value c.change_here.ensures
