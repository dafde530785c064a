use Rattle.std.proofs.Common.{◌-◌, subst, sym}
use Rattle.vw_cell.specs.declared.blocks.Block.{Block}
use Rattle.node_words.specs.contents.CellShapes.{octant_cells}
use Rattle.edit_walk.proofs.OfCells.PaintLaws.{old_block}
use Rattle.edit_ops.specs.Clips.{MakesClip}
use Rattle.edit_ops.proofs.ClipLaws.{clip_octant}
use Rattle.edit_ops.proofs.clips.ClipTaskTask.octant.Goals as goal

pub child-part-requires-clause-level : goal.child-part-requires-clause-level
child-part-requires-clause-level g c =
    let (base, cells, keeps, m) = c.requires.task in (c.requires.level, m.small)

pub child-part-requires-clause-inside : goal.child-part-requires-clause-inside
child-part-requires-clause-inside g c = let (base, cells, keeps, m) = c.requires.task in m.inside

pub returns-clause-task : goal.returns-clause-task
returns-clause-task g c base cells keeps m =
    let child =
    sym (c.requires.old m.paints.tree
    (old_block base _ c.args.level m.paints.tree _ keeps m.paints.is_old)).root in
    subst (λ (b : Block). MakesClip c.args.old c.args.self.now.ball.now c.args.self.now.within.now b.at c.args.self.now.set base (c.args.level - 1) (octant_cells (c.args.level - 1) cells c.args.octant)) (sym c.child-part.ensures)
    (clip_octant base c.args.level c.args.self.now.old c.args.self.now.ball.now c.args.self.now.within.now c.args.self.now.at c.args.self.now.set cells c.args.octant c.args.old c.requires.level c.requires.octant m child)
