use Rattle.colour.proofs.WalkLaws.{makes_as}
use Rattle.colour.proofs.walks.TintTaskTask.old.Goals as goal

pub returns-in-Root-clause-block : goal.returns-in-Root-clause-block
returns-in-Root-clause-block g c base level cells m =
    let n = makes_as g.P.Planes.task_of g.T.Task.makes _ _ base level cells c.in-Root.is m in
    (n.tree, n.is_old)

pub returns-in-Cells-clause-block : goal.returns-in-Cells-clause-block
returns-in-Cells-clause-block g c base level cells m =
    let n = makes_as g.P.Planes.task_of g.T.Task.makes _ _ base level cells c.in-Cells.is m in
    (n.tree, n.is_old)

pub returns-in-Bits-clause-block : goal.returns-in-Bits-clause-block
returns-in-Bits-clause-block g c base level cells m =
    let n = makes_as g.P.Planes.task_of g.T.Task.makes _ _ base level cells c.in-Bits.is m in
    (n.tree, n.is_old)

pub returns-in-Kept-clause-block : goal.returns-in-Kept-clause-block
returns-in-Kept-clause-block g c base level cells m =
    let n = makes_as g.P.Planes.task_of g.T.Task.makes _ _ base level cells c.in-Kept.is m in
    (n.paints.tree, n.paints.is_old)

pub returns-in-Plane-clause-block : goal.returns-in-Plane-clause-block
returns-in-Plane-clause-block g c base level cells m =
    c.old.ensures.block base level cells
    (makes_as g.P.Planes.task_of g.T.Task.makes _ _ base level cells c.in-Plane.is m)
