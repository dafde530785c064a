use Rattle.std.proofs.Common.{◌-◌, subst, sym, ap, ◌∙◌}
use Rattle.vw_cell.specs.declared.boxes.Boxed.{Boxed}
use Rattle.node_words.specs.descent.Parts.{part_in}
use Rattle.node_words.specs.contents.CellShapes.{octant_cells}
use Rattle.edit_walk.proofs.OfCells.PaintLaws.{old_block}
use Rattle.edit_ops.specs.Boxes.{MakesBox}
use Rattle.edit_ops.proofs.BoxLaws.{makes_octant, clip_parts}
use Rattle.edit_ops.proofs.boxes.BoxTaskTask.octant.Goals as goal

pub half_side-half-requires : goal.half_side-half-requires
half_side-half-requires g c =
    let (base, cells, keeps, m) = c.requires.task in (c.requires.level, m.small)

pub returns-clause-task : goal.returns-clause-task
returns-clause-task g c base cells keeps m =
    let e =
    c.part_of-part.ensures.part
    ∙ ap (λ (h : _). part_in h c.args.self.now.part c.args.octant) c.half_side-half.ensures.half in
    let child =
    sym (c.requires.old m.paints.tree
    (old_block base _ c.args.level m.paints.tree _ keeps m.paints.is_old)).root in
    subst (λ (b : Boxed). MakesBox
    (record { old = c.args.old; part = b; set = c.args.self.now.set }) base
    (c.args.level - 1) (octant_cells (c.args.level - 1) cells c.args.octant)) (sym e)
    (makes_octant base c.args.level c.args.self.now cells c.args.octant c.args.old c.requires.level c.requires.octant m child)

pub returns-clause-mixed : goal.returns-clause-mixed
returns-clause-mixed g c =
    clip_parts (c.args.level - 1) _ _
    (c.part_of-part.ensures.part
    ∙ ap (λ (h : _). part_in h c.args.self.now.part c.args.octant) c.half_side-half.ensures.half)
