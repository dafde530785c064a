use Rattle.edit_stamp.proofs.StampLaws.{inked_clear}
use Rattle.edit_stamp.proofs.WorldsMade.{made_as}
use Rattle.edit_stamp.proofs.rebuild.rebuild_unstamp.Goals as goal

pub returns-clause-made : goal.returns-clause-made
returns-clause-made g c before w =
    made_as _ _ _ _ _ (inked_clear c.args.stencil.now c.args.at before) _
    (c.ink.ensures.made before w)
