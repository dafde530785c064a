use Rattle.std.proofs.Common.{◌-◌, sym, arith}
use Rattle.edit_walk.proofs.OfCells.PaintLaws.{old_block}
use Rattle.edit_ops.proofs.BallLaws.{ball_octant, told_of}
use Rattle.edit_ops.proofs.balls.BallTaskTask.octant.Goals as goal

pub child-part-requires-clause-level : goal.child-part-requires-clause-level
child-part-requires-clause-level g c =
    let (base, cells, keeps, m) = c.requires.task in (c.requires.level, m.small)

pub child-part-requires-clause-inside : goal.child-part-requires-clause-inside
child-part-requires-clause-inside g c = let (base, cells, keeps, m) = c.requires.task in m.inside

pub side_of-side-requires : goal.side_of-side-requires
side_of-side-requires g c =
    let (base, cells, keeps, m) = c.requires.task in omega (arith, m.small)

pub returns-clause-task : goal.returns-clause-task
returns-clause-task g c base cells keeps m =
    let child =
    sym (c.requires.old m.paints.tree
    (old_block base _ c.args.level m.paints.tree _ keeps m.paints.is_old)).root in
    ball_octant base c.args.level c.args.self.now.old c.args.self.now.ball c.args.self.now.at
    c.args.self.now.set c.args.self.now.near c.args.self.now.far c.near_of-near.result
    c.far_of-far.result cells c.args.octant c.args.old c.child-part.result
    c.requires.level c.requires.octant m child c.child-part.ensures
    (told_of _ _ (c.args.level - 1) _ _ _ c.side_of-side.ensures.value c.near_of-near.ensures
    c.far_of-far.ensures)
