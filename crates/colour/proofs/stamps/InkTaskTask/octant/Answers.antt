use Rattle.std.proofs.Common.{◌-◌, subst, sym}
use Rattle.vw_cell.specs.declared.blocks.Block.{Block}
use Rattle.node_words.specs.contents.CellShapes.{octant_cells}
use Rattle.edit_walk.proofs.OfCells.PaintLaws.{old_block}
use Rattle.colour.specs.Stamps.{MakesInk}
use Rattle.colour.proofs.StampBlocks.{ink_octant}
use Rattle.colour.proofs.stamps.InkTaskTask.octant.Goals as goal

pub child-part-requires-clause-level : goal.child-part-requires-clause-level
child-part-requires-clause-level g c =
    let (base, cells, keeps, m) = c.requires.task in (c.requires.level, m.small)

pub child-part-requires-clause-inside : goal.child-part-requires-clause-inside
child-part-requires-clause-inside g c = let (base, cells, keeps, m) = c.requires.task in m.inside

pub returns-clause-task : goal.returns-clause-task
returns-clause-task g c base cells keeps m =
    let child = sym (c.requires.old m.tree
    (old_block base _ c.args.level m.tree _ keeps m.is_old)).root in
    subst (λ (b : Block). MakesInk c.args.old c.args.self.now.stencil.now c.args.self.now.place.now b.at c.args.self.now.plane
    (c.args.level - 1) base (c.args.level - 1)
    (octant_cells (c.args.level - 1) cells c.args.octant))
    (sym c.child-part.ensures)
    (ink_octant base c.args.level c.args.self.now.level c.args.self.now.old
    c.args.old c.args.self.now.stencil.now c.args.self.now.place.now c.args.self.now.at c.args.self.now.plane cells c.args.octant
    c.requires.level c.requires.octant m child)
