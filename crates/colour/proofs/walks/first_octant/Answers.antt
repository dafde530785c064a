use Rattle.colour.proofs.WalkLaws.{first_made, first_other}
use Rattle.colour.proofs.walks.first_octant.Goals as goal

pub returns-then-octant-eq0 : goal.returns-then-octant-eq0
returns-then-octant-eq0 g c base level cells m =
    first_made g.P.Planes.task_of g.T.Task.makes c.args.planes c.args.old base level cells c.args.octant
    c.task.result c.task.ensures.task c.if-octant-eq0.true m

pub returns : goal.returns
returns g c base level cells m =
    first_other g.P.Planes.task_of g.T.Task.makes c.args.planes c.args.old base level cells c.args.octant
    c.if-octant-eq0.false m
