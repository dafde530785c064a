use Rattle.std.proofs.Common.{◌∙◌, refl, sym, subst}
use Rattle.std.proofs.lemmas.Bool.{false≢true}
use Rattle.edit_walk.specs.declared.cells.tasks.Whole.{Whole}
use Rattle.edit_walk.specs.cells.Tasks.{IsWhole}
use Rattle.edit_walk.proofs.OfCells.PaintLaws.{paints_missed, paints_held, paints_nothing, old_not_mixed, filled_not_mixed}
use Rattle.edit_walk.proofs.OfCells.PartLaws.{box_missed, box_held}
use Rattle.edit_ops.proofs.BoxLaws.{parts_some, partly}
use Rattle.edit_ops.proofs.boxes.BoxTaskTask.whole.Goals as goal

pub returns-then-not-meets-clause-whole : goal.returns-then-not-meets-clause-whole
returns-then-not-meets-clause-whole c base cells m =
    subst (λ (w : Whole). IsWhole base c.args.level cells w) (sym c.old_whole.ensures)
    (paints_missed base c.args.level c.args.self.now.old _ _ cells
    (box_missed _ c.args.level (λ h. false≢true (c.if-not-meets.ensures.1 h))) m.paints)

pub returns-then-holds_block-clause-whole : goal.returns-then-holds_block-clause-whole
returns-then-holds_block-clause-whole c base cells m =
    subst (λ (w : Whole). IsWhole base c.args.level cells w) (sym c.filled.ensures)
    (paints_held base c.args.level _ c.args.self.now.set _ cells
    (box_held _ c.args.level (c.if-holds_block.ensures.0 refl)) m.paints)

pub returns-then-not-meets-clause-mixed : goal.returns-then-not-meets-clause-mixed
returns-then-not-meets-clause-mixed c e h =
    absurd (old_not_mixed c.args.self.now.old (sym c.old_whole.ensures ∙ e))

pub returns-then-holds_block-clause-mixed : goal.returns-then-holds_block-clause-mixed
returns-then-holds_block-clause-mixed c e h =
    absurd (filled_not_mixed c.args.self.now.set (sym c.filled.ensures ∙ e))

pub returns-clause-mixed : goal.returns-clause-mixed
returns-clause-mixed c e h =
    parts_some c.args.level c.args.self.now.part h
    (partly c.args.level c.args.self.now.part (c.if-not-meets.ensures.0 refl)
    (λ k. false≢true (c.if-holds_block.ensures.1 k)))

pub returns-then-clears_nothing-clause-whole : goal.returns-then-clears_nothing-clause-whole
returns-then-clears_nothing-clause-whole c base cells m =
    let e = c.if-clears_nothing.ensures refl in
    paints_nothing base c.args.level c.args.self.now.old c.args.self.now.set _ cells e.1 e.0 m.paints
