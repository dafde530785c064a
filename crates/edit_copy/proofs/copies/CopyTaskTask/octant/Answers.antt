use Rattle.std.proofs.Common.{arith, suc, ◌-◌, ◌≡◌, ◌<◌, subst, sym, ap, ◌∙◌, ℕ}
use Rattle.vw_cell.specs.declared.cells.Cell.{Cell}
use Rattle.vw_cell.specs.declared.boxes.Boxed.{Boxed}
use Rattle.vw_cell.specs.Places.{block_side}
use Rattle.node_words.specs.shapes.Tree.{child_of}
use Rattle.node_words.specs.descent.Parts.{part_in}
use Rattle.node_words.specs.contents.CellShapes.{octant_cells}
use Rattle.edit_walk.proofs.OfCells.PaintLaws.{old_block}
use Rattle.edit_copy.specs.Copies.{MakesCopy, AreBlocks, AreTaken, IsOffset, IsBegin, rest_of}
use Rattle.edit_copy.proofs.CopyLaws.{makes_taken, kept_part}
use Rattle.edit_copy.proofs.WindowLaws.{step_begins}
use Rattle.edit_copy.proofs.copies.CopyTaskTask.octant.Goals as goal

pub half_side-half-requires : goal.half_side-half-requires
half_side-half-requires g c =
    let (base, cells, keeps, m) = c.requires.task in (c.requires.level, m.small)

pub kept_old-old-requires : goal.kept_old-old-requires
kept_old-old-requires g c =
    let (base, cells, keeps, m) = c.requires.task in omega (arith, m.small)

pub taken_in-sources-requires-clause-sources : goal.taken_in-sources-requires-clause-sources
taken_in-sources-requires-clause-sources g c =
    let (base, cells, keeps, m) = c.requires.task in (
      m.row,
      record {
        each = λ i l. old_block base _ c.args.level (m.row i) _ keeps (m.sources.each i l);
      },
    )

pub taken_in-sources-requires-clause-at : goal.taken_in-sources-requires-clause-at
taken_in-sources-requires-clause-at g c =
    let (base, cells, keeps, m) = c.requires.task in
    let up : c.args.level ≡ suc (c.args.level - 1) = omega (arith, c.requires.level) in
    let o = subst (λ (l : ℕ). IsOffset l c.args.self.now.offset) up m.offset in
    subst (λ (at : Cell). IsBegin at) (sym c.step_to-step.ensures.at)
    (step_begins (c.args.level - 1) c.args.octant c.args.self.now.offset c.requires.octant o)

pub returns-clause-task : goal.returns-clause-task
returns-clause-task g c base cells keeps m =
    let k = c.args.octant in
    let below : ℕ = c.args.level - 1 in
    let sources = c.taken_in-sources.result in
    let held = (g.B.Blocks.seen c.args.store.now).held in
    let part =
    c.part_of-part.ensures.part
    ∙ ap (λ (h : ℕ). part_in h c.args.self.now.part k) c.half_side-half.ensures.half in
    let rows : AreBlocks held c.args.level c.args.self.now.sources m.row =
    record { each = λ i l. old_block base held c.args.level (m.row i) _ keeps (m.sources.each i l) } in
    let taken =
    subst (λ (at : Cell). AreTaken held below m.row at (rest_of below k c.args.self.now.offset)
    (part_in (block_side below) c.args.self.now.part k) sources) c.step_to-step.ensures.at
    (subst (λ (o : Cell). AreTaken held below m.row c.step_to-step.result.at o
    (part_in (block_side below) c.args.self.now.part k) sources) c.step_to-step.ensures.rest
    (subst (λ (b : Boxed). AreTaken held below m.row c.step_to-step.result.at
    c.step_to-step.result.rest b sources) part
    (c.taken_in-sources.ensures.sources m.row rows)))
    in
    let child =
    sym (c.requires.old m.tree (old_block base held c.args.level m.tree _ keeps m.is_old)).root in
    let made =
    makes_taken base held c.args.level c.args.self.now cells k c.kept_old-old.result sources c.requires.level c.requires.octant m
    (kept_part below _ _ c.args.old _ (child_of m.tree k) part child c.kept_old-old.ensures)
    taken
    in
    subst (λ (b : Boxed). MakesCopy
    (record { old = c.kept_old-old.result; sources = sources; offset = c.step_to-step.result.rest; part = b }) base below (octant_cells below cells k)) (sym part)
    (subst (λ (o : Cell). MakesCopy
    (record {
      old = c.kept_old-old.result;
      sources = sources;
      offset = o;
      part = part_in
          (block_side below) c.args.self.now.part k;
    }) base below (octant_cells below cells k))
    (sym c.step_to-step.ensures.rest) made)
