use Rattle.std.proofs.Common.{subst}
use Rattle.vox_read.specs.Contents.{Content}
use Rattle.colour.specs.Inks.{DrawsTints}
use Rattle.act_rebuilds.proofs.Places.{drawn_places}
use Rattle.act_rebuilds.proofs.drawn.TintedModel.new.Goals as goal

pub returns-clause-tints : goal.returns-clause-tints
returns-clause-tints g c =
    drawn_places (g.B.Lends.lent c.args.from) c.in_ok-stencil.stencil
    (subst (λ (m : Content). DrawsTints m c.in_ok-stencil.stencil) c.lend.ensures
    c.in_ok-stencil.ensures)
