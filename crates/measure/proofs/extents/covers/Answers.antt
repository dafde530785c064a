use Rattle.std.proofs.Common.{sym, subst, Option}
use Rattle.vw_cell.specs.declared.boxes.Boxed.{Boxed}
use Rattle.measure.specs.Widening.{IsFound}
use Rattle.measure.proofs.extents.covers.Goals as goal

pub returns-in-Some : goal.returns-in-Some
returns-in-Some c holds p i =
    subst (λ (o : Option Boxed). IsFound o p) (sym c.in-Some.is)
    ((c.holds_block.ensures.0 holds).each p i)
