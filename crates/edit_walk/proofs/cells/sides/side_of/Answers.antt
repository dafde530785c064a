use Rattle.std.proofs.Common.{subst, sym, ◌≤◌, ℕ}
use Rattle.edit_walk.proofs.OfCells.PartLaws.{side_bound, side_exact}
use Rattle.edit_walk.proofs.cells.sides.side_of.Goals as goal

pub returns-clause-value : goal.returns-clause-value
returns-clause-value c = side_exact c.args.level c.requires

pub returns-clause-bound : goal.returns-clause-bound
returns-clause-bound c =
    subst (λ (n : ℕ). (1 ≤ n) × (n ≤ 4096)) (sym (side_exact c.args.level c.requires))
    (side_bound c.args.level c.requires)
