use Rattle.std.proofs.Common.{refl, sym, subst}
use Rattle.edit_walk.specs.declared.cells.tasks.Whole.{Whole}
use Rattle.edit_walk.specs.cells.Tasks.{IsWhole}
use Rattle.edit_walk.specs.cells.Worlds.{block_at_origin}
use Rattle.edit_walk.proofs.OfCells.WorldLaws.{blocks_some}
use Rattle.edit_copy.proofs.CopyLaws.{copy_missed, copy_shared, copy_none}
use Rattle.edit_copy.proofs.copies.CopyTaskTask.whole.Goals as goal

pub returns-then-is_empty-clause-whole : goal.returns-then-is_empty-clause-whole
returns-then-is_empty-clause-whole c base cells m =
    subst (λ (w : Whole). IsWhole base c.args.level cells w) (sym c.old_whole.ensures)
    (copy_missed base c.args.level c.args.self.now cells
    (c.if-is_empty.ensures refl (block_at_origin c.args.level)) m)

pub returns-then-same_cells-clause-whole : goal.returns-then-same_cells-clause-whole
returns-then-same_cells-clause-whole c base cells m =
    subst (λ (w : Whole). IsWhole base c.args.level cells w)
    (sym c.old_whole-then-same_cells.ensures)
    (copy_shared base c.args.level c.args.self.now cells (c.if-holds_block.ensures.0 refl)
    (c.if-same_cells.ensures.0 refl) m)

pub returns-then-are_none-clause-whole : goal.returns-then-are_none-clause-whole
returns-then-are_none-clause-whole c base cells m =
    copy_none base c.args.level c.args.self.now cells (c.if-holds_block.ensures.0 refl)
    (c.if-are_none.ensures refl) m

pub returns-else-are_none-clause-mixed : goal.returns-else-are_none-clause-mixed
returns-else-are_none-clause-mixed c e h = blocks_some c.args.level h

pub returns-else-holds_block-clause-mixed : goal.returns-else-holds_block-clause-mixed
returns-else-holds_block-clause-mixed c e h = blocks_some c.args.level h
