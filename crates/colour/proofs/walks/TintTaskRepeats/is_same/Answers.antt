use Rattle.colour.proofs.WalkLaws.{planes_alike}
use Rattle.colour.proofs.walks.TintTaskRepeats.is_same.Goals as goal

pub returns-in-Plane-other : goal.returns-in-Plane-other
returns-in-Plane-other g c e =
    planes_alike g.P.Planes.task_of g.T.Task.makes _ _ _ _ c.in-Plane.is c.in-Plane-other.is
    (c.is_same.ensures e)
