use Rattle.std.proofs.Common.{sym, subst}
use Rattle.vw_cell.specs.declared.directions.Direction.{Direction}
use Rattle.measure.specs.Leaves.{BitsPassTest}
use Rattle.measure.specs.Exposed.{is_next_set}
use Rattle.measure.proofs.BareLeaves.{low_x_tells, high_x_tells, low_y_tells, high_y_tells, low_z_tells, high_z_tells}
use Rattle.measure.proofs.exposed_sides.next_bits.Goals as goal

pub returns-in-LowX-clause-next : goal.returns-in-LowX-clause-next
returns-in-LowX-clause-next c s u p q =
    subst (λ (d : Direction). BitsPassTest c.window_bits.result (is_next_set d 0 s u))
    (sym c.in-LowX.is)
    (low_x_tells c.args.bits c.args.beside _ s u c.window_bits.ensures.bits p q)

pub returns-in-HighX-clause-next : goal.returns-in-HighX-clause-next
returns-in-HighX-clause-next c s u p q =
    subst (λ (d : Direction). BitsPassTest c.window_bits-in-HighX.result (is_next_set d 0 s u))
    (sym c.in-HighX.is)
    (high_x_tells c.args.bits c.args.beside _ s u c.window_bits-in-HighX.ensures.bits p q)

pub returns-in-LowY-clause-next : goal.returns-in-LowY-clause-next
returns-in-LowY-clause-next c s u p q =
    subst (λ (d : Direction). BitsPassTest c.window_bits-in-LowY.result (is_next_set d 0 s u))
    (sym c.in-LowY.is)
    (low_y_tells c.args.bits c.args.beside _ s u c.window_bits-in-LowY.ensures.bits p q)

pub returns-in-HighY-clause-next : goal.returns-in-HighY-clause-next
returns-in-HighY-clause-next c s u p q =
    subst (λ (d : Direction). BitsPassTest c.window_bits-in-HighY.result (is_next_set d 0 s u))
    (sym c.in-HighY.is)
    (high_y_tells c.args.bits c.args.beside _ s u c.window_bits-in-HighY.ensures.bits p q)

pub returns-in-LowZ-clause-next : goal.returns-in-LowZ-clause-next
returns-in-LowZ-clause-next c s u p q =
    subst (λ (d : Direction). BitsPassTest c.window_bits-in-LowZ.result (is_next_set d 0 s u))
    (sym c.in-LowZ.is)
    (low_z_tells c.args.bits c.args.beside _ s u c.window_bits-in-LowZ.ensures.bits p q)

pub returns-in-HighZ-clause-next : goal.returns-in-HighZ-clause-next
returns-in-HighZ-clause-next c s u p q =
    subst (λ (d : Direction). BitsPassTest c.window_bits-in-HighZ.result (is_next_set d 0 s u))
    (sym c.in-HighZ.is)
    (high_z_tells c.args.bits c.args.beside _ s u c.window_bits-in-HighZ.ensures.bits p q)
