use Rattle.std.proofs.Common.{arith}
use Rattle.colour.proofs.FillLaws.{walk_makes, walk_begins}
use Rattle.colour.specs.Walks.{all_planes}
use Rattle.colour.proofs.walks.rebuild_planes.Goals as goal

pub rebuild_world-requires-clause-task : goal.rebuild_world-requires-clause-task
rebuild_world-requires-clause-task g c =
    let (edit, made) = c.requires.planes in
    walk_begins g.P.Planes.task_of g.T.Task.makes c.args.planes c.args.side _ _ _ _ c.name_of.ensures c.requires.large (omega arith)
    c.held-held.ensures.trees c.held-held.ensures.canonical edit made c.requires.may.root_is

pub returns-clause-made : goal.returns-clause-made
returns-clause-made g c edit made before w =
    c.rebuild_world.ensures.made (all_planes c.args.side edit before)
    (walk_makes g.P.Planes.task_of g.T.Task.makes c.args.planes c.args.side _ _ _ _ c.name_of.ensures c.requires.large (omega arith)
    c.held-held.ensures.trees c.held-held.ensures.canonical edit made before w)
