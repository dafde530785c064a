use Rattle.colour.proofs.WalkLaws.{makes_as, some_as, kept_has, kept_bits, row_above}
use Rattle.colour.proofs.walks.TintTaskTask.bits.Goals as goal

pub leaf_bits-requires : goal.leaf_bits-requires
leaf_bits-requires g c =
    let (base, cells, keeps, m) =
    some_as g.P.Planes.task_of g.T.Task.makes _ _ _ 0 c.in-Kept.is c.requires.task in
    record { block = kept_has c.in-Kept.old base _ 0 cells keeps m }

pub returns-in-Root-clause-bits : goal.returns-in-Root-clause-bits
returns-in-Root-clause-bits g c base cells keeps m =
    absurd (row_above _ _ base cells
    (makes_as g.P.Planes.task_of g.T.Task.makes _ _ base 0 cells c.in-Root.is m))

pub returns-in-Cells-clause-bits : goal.returns-in-Cells-clause-bits
returns-in-Cells-clause-bits g c base cells keeps m =
    absurd (row_above _ _ base cells
    (makes_as g.P.Planes.task_of g.T.Task.makes _ _ base 0 cells c.in-Cells.is m))

pub returns-in-Bits-clause-bits : goal.returns-in-Bits-clause-bits
returns-in-Bits-clause-bits g c base cells keeps m =
    absurd (row_above _ _ base cells
    (makes_as g.P.Planes.task_of g.T.Task.makes _ _ base 0 cells c.in-Bits.is m))

pub returns-in-Kept-clause-bits : goal.returns-in-Kept-clause-bits
returns-in-Kept-clause-bits g c base cells keeps m =
    kept_bits c.in-Kept.old base _ cells _ keeps
    (makes_as g.P.Planes.task_of g.T.Task.makes _ _ base 0 cells c.in-Kept.is m) c.leaf_bits.ensures.bits

pub returns-in-Plane-clause-bits : goal.returns-in-Plane-clause-bits
returns-in-Plane-clause-bits g c base cells keeps m =
    c.bits.ensures.bits base cells keeps
    (makes_as g.P.Planes.task_of g.T.Task.makes _ _ base 0 cells c.in-Plane.is m)
