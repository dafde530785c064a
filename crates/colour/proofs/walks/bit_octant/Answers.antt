use Rattle.colour.proofs.WalkLaws.{bit_made}
use Rattle.colour.proofs.walks.bit_octant.Goals as goal

pub returns : goal.returns
returns g c base level cells m =
    bit_made g.P.Planes.task_of g.T.Task.makes c.args.planes c.args.old base level cells c.args.octant
    c.task.result c.task.ensures.task m
