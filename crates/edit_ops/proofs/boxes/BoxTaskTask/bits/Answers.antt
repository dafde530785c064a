use Rattle.edit_walk.proofs.OfCells.PaintLaws.{paints_bits, old_block, old_has}
use Rattle.edit_walk.proofs.OfCells.WorldLaws.{leaf_places}
use Rattle.edit_ops.proofs.boxes.BoxTaskTask.bits.Goals as goal

pub leaf_bits-old-requires : goal.leaf_bits-old-requires
leaf_bits-old-requires g c =
    let (base, cells, keeps, m) = c.requires.task in record
    { block = old_has base _ 0 _ _ keeps m.paints.is_old }

pub returns-clause-bits : goal.returns-clause-bits
returns-clause-bits g c base cells keeps m =
    let p = m.paints in
    paints_bits base _ _ _ c.box_bits-inside.result _ _ cells p c.box_bits-inside.ensures.bound
    (c.leaf_bits-old.ensures.bits p.tree (old_block base _ 0 p.tree _ keeps p.is_old))
    (leaf_places _ _ c.box_bits-inside.ensures.bits) c.paint.ensures
