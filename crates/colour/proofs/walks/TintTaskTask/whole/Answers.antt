use Rattle.edit_walk.proofs.OfCells.WorldLaws.{blocks_some}
use Rattle.colour.proofs.WalkLaws.{makes_as, kept_whole}
use Rattle.colour.proofs.walks.TintTaskTask.whole.Goals as goal

pub returns-in-Kept-clause-whole : goal.returns-in-Kept-clause-whole
returns-in-Kept-clause-whole g c base cells m =
    kept_whole c.in-Kept.old base c.args.level cells _ c.old_whole.ensures
    (makes_as g.P.Planes.task_of g.T.Task.makes _ _ base c.args.level cells c.in-Kept.is m)

pub returns-in-Root-clause-mixed : goal.returns-in-Root-clause-mixed
returns-in-Root-clause-mixed g c e h = blocks_some c.args.level h

pub returns-in-Cells-clause-mixed : goal.returns-in-Cells-clause-mixed
returns-in-Cells-clause-mixed g c e h = blocks_some c.args.level h

pub returns-in-Bits-clause-mixed : goal.returns-in-Bits-clause-mixed
returns-in-Bits-clause-mixed g c e h = blocks_some c.args.level h

pub returns-in-Plane-clause-mixed : goal.returns-in-Plane-clause-mixed
returns-in-Plane-clause-mixed g c e h = blocks_some c.args.level h
