use Rattle.std.proofs.Common.{◌-◌}
use Rattle.colour.specs.Walks.{root_octants, first_octants, bit_octants}
use Rattle.colour.proofs.WalkLaws.{makes_as, some_as, octant_as, row_octant, kept_octant}
use Rattle.colour.proofs.walks.TintTaskTask.octant.Goals as goal

pub returns-in-Root-clause-task : goal.returns-in-Root-clause-task
returns-in-Root-clause-task g c base cells keeps m =
    c.root_octant.ensures base (c.args.level - 1) _
    (row_octant (root_octants g.P.Planes.task_of g.T.Task.makes c.in-Root.planes) _ c.args.old base _ c.args.level cells c.args.octant c.requires.octant keeps
    (makes_as g.P.Planes.task_of g.T.Task.makes _ _ base c.args.level cells c.in-Root.is m)
    (octant_as g.T.Task.was _ _ _ c.args.level c.args.octant c.args.old c.in-Root.is c.requires.old))

pub returns-in-Cells-clause-task : goal.returns-in-Cells-clause-task
returns-in-Cells-clause-task g c base cells keeps m =
    c.first_octant.ensures base (c.args.level - 1) _
    (row_octant (first_octants g.P.Planes.task_of g.T.Task.makes c.in-Cells.planes) _ c.args.old base _ c.args.level cells c.args.octant c.requires.octant keeps
    (makes_as g.P.Planes.task_of g.T.Task.makes _ _ base c.args.level cells c.in-Cells.is m)
    (octant_as g.T.Task.was _ _ _ c.args.level c.args.octant c.args.old c.in-Cells.is c.requires.old))

pub returns-in-Bits-clause-task : goal.returns-in-Bits-clause-task
returns-in-Bits-clause-task g c base cells keeps m =
    c.bit_octant.ensures base (c.args.level - 1) _
    (row_octant (bit_octants g.P.Planes.task_of g.T.Task.makes c.in-Bits.planes) _ c.args.old base _ c.args.level cells c.args.octant c.requires.octant keeps
    (makes_as g.P.Planes.task_of g.T.Task.makes _ _ base c.args.level cells c.in-Bits.is m)
    (octant_as g.T.Task.was _ _ _ c.args.level c.args.octant c.args.old c.in-Bits.is c.requires.old))

pub returns-in-Kept-clause-task : goal.returns-in-Kept-clause-task
returns-in-Kept-clause-task g c base cells keeps m =
    kept_octant _ c.args.old base _ c.args.level cells c.args.octant c.requires.level c.requires.octant keeps
    (makes_as g.P.Planes.task_of g.T.Task.makes _ _ base c.args.level cells c.in-Kept.is m)
    (octant_as g.T.Task.was _ _ _ c.args.level c.args.octant c.args.old c.in-Kept.is c.requires.old)

pub octant-requires-clause-task : goal.octant-requires-clause-task
octant-requires-clause-task g c =
    some_as g.P.Planes.task_of g.T.Task.makes _ _ _ c.args.level c.in-Plane.is c.requires.task

pub octant-requires-clause-old : goal.octant-requires-clause-old
octant-requires-clause-old g c =
    octant_as g.T.Task.was _ _ _ c.args.level c.args.octant c.args.old c.in-Plane.is c.requires.old
