use Rattle.edit_walk.proofs.OfCells.PaintLaws.{old_block, old_has}
use Rattle.colour.proofs.StampBlocks.{ink_bits, new_bits}
use Rattle.colour.proofs.stamps.InkTaskTask.bits.Goals as goal

pub leaf_bits-old-requires : goal.leaf_bits-old-requires
leaf_bits-old-requires g c =
    let (base, cells, keeps, m) = c.requires.task in
    record { block = old_has base _ 0 m.tree _ keeps m.is_old }

pub returns-clause-bits : goal.returns-clause-bits
returns-clause-bits g c base cells keeps m =
    ink_bits base _ c.args.self.now.stencil.now c.args.self.now.place.now c.args.self.now.at c.args.self.now.plane c.args.self.now.level cells
    c.plane-cells.result.now c.plane-drawn.result.now c.leaf_bits-old.result c.leaf_bits-ink.result
    c.leaf_bits-told.result _ m c.plane-cells.ensures c.plane-drawn.ensures
    (c.leaf_bits-old.ensures.bits m.tree (old_block base _ 0 m.tree _ keeps m.is_old))
    c.leaf_bits-ink.ensures.bits c.leaf_bits-told.ensures.bits c.inked_bits.ensures

pub returns-then-old-eq0-clause-bits : goal.returns-then-old-eq0-clause-bits
returns-then-old-eq0-clause-bits g c base cells keeps m =
    new_bits base _ c.args.self.now.stencil.now c.args.self.now.place.now c.args.self.now.at
    c.args.self.now.plane c.args.self.now.level cells c.plane-drawn.result.now
    c.leaf_bits-old.result c.leaf_bits-told.result m c.plane-drawn.ensures
    (c.leaf_bits-old.ensures.bits m.tree (old_block base _ 0 m.tree _ keeps m.is_old))
    c.if-old-eq0.true c.leaf_bits-told.ensures.bits
