use Rattle.std.proofs.Common.{ℕ, ◌+◌, ◌*◌, ◌≤◌, refl, subst, sym}
use Rattle.std.specs.Int.{abs_diff}
use Rattle.vw_cell.specs.Places.{square}
use Rattle.edit_ops.proofs.BallLaws.{far_above}
use Rattle.edit_ops.proofs.balls.farthest.Goals as goal

pub returns-clause-above : goal.returns-clause-above
returns-clause-above c i lt =
    subst (λ (m : ℕ). 4 * square (abs_diff c.args.centre (c.args.at + i)) ≤ m)
    (sym c.squared.ensures.value)
    (far_above c.args.centre c.args.at c.args.side c.apart.result _ i c.apart.ensures.apart refl lt)
