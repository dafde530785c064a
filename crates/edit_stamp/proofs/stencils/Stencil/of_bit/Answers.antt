use Rattle.std.proofs.Common.{subst, sym}
use Rattle.vox_read.specs.Contents.{Content, IsModel}
use Rattle.edit_stamp.proofs.BitLaws.{bit_model_fine, of_bit_draws}
use Rattle.edit_stamp.proofs.stencils.Stencil.of_bit.Goals as goal

pub new-requires : goal.new-requires
new-requires c =
    subst (λ (m : Content). IsModel m) (sym c.in_ok-plane.ensures.is)
    (bit_model_fine c.args.bit c.args.model.now c.requires.model)

pub returns-clause-draws : goal.returns-clause-draws
returns-clause-draws c =
    of_bit_draws c.args.bit c.args.model.now c.in_ok-plane.plane _ c.in_ok-plane.ensures.is
    c.new.ensures
