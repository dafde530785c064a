use Rattle.colour.proofs.WalkLaws.{root_first, root_second, root_other}
use Rattle.colour.proofs.walks.root_octant.Goals as goal

pub returns-then-octant-eq0 : goal.returns-then-octant-eq0
returns-then-octant-eq0 g c base level cells m =
    root_first g.P.Planes.task_of g.T.Task.makes c.args.planes c.args.old base level cells c.args.octant
    c.if-octant-eq0.true m

pub returns-then-octant-eq1 : goal.returns-then-octant-eq1
returns-then-octant-eq1 g c base level cells m =
    root_second g.P.Planes.task_of g.T.Task.makes c.args.planes c.args.old base level cells c.args.octant
    c.if-octant-eq1.true m

pub returns : goal.returns
returns g c base level cells m =
    root_other g.P.Planes.task_of g.T.Task.makes c.args.planes c.args.old base level cells c.args.octant
    c.if-octant-eq0.false c.if-octant-eq1.false m
