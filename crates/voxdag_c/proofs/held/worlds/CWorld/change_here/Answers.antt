use Rattle.voxdag_c.proofs.OfHeld.Kinds.{fits_here, suits_here, changed_here}
use Rattle.voxdag_c.proofs.held.worlds.CWorld.change_here.Goals as goal

pub change-requires-clause-fits : goal.change-requires-clause-fits
change-requires-clause-fits c =
    fits_here c.args.self.now c.tint.result c.args.act c.act_of_kind-act.result c.tint.ensures
    c.act_of_kind-act.ensures c.requires.plain c.requires.fits

pub change-requires-clause-suits : goal.change-requires-clause-suits
change-requires-clause-suits c =
    suits_here c.args.self.now c.tint.result c.args.act c.act_of_kind-act.result c.tint.ensures
    c.act_of_kind-act.ensures c.requires.plain

pub returns : goal.returns
returns c =
    changed_here c.args.self.now c.tint.result c.args.act c.act_of_kind-act.result c.tint.ensures
    c.act_of_kind-act.ensures c.change.result c.change.new.self c.change.ensures
