use Rattle.std.proofs.Common.{◌∙◌, refl, sym, subst}
use Rattle.edit_walk.specs.declared.cells.tasks.Whole.{Whole}
use Rattle.edit_walk.specs.cells.Tasks.{IsWhole}
use Rattle.edit_walk.proofs.OfCells.PaintLaws.{paints_missed, paints_held, paints_nothing, old_not_mixed, filled_not_mixed}
use Rattle.edit_walk.proofs.OfCells.WorldLaws.{blocks_some}
use Rattle.edit_ops.proofs.balls.BallTaskTask.whole.Goals as goal

pub returns-then-is_beyond-clause-whole : goal.returns-then-is_beyond-clause-whole
returns-then-is_beyond-clause-whole c base cells m =
    subst (λ (w : Whole). IsWhole base c.args._level cells w) (sym c.old_whole.ensures)
    (paints_missed base c.args._level c.args.self.now.old _ _ cells
    (m.told.none (c.if-is_beyond.ensures refl)) m.paints)

pub returns-then-is_within-clause-whole : goal.returns-then-is_within-clause-whole
returns-then-is_within-clause-whole c base cells m =
    subst (λ (w : Whole). IsWhole base c.args._level cells w) (sym c.filled.ensures)
    (paints_held base c.args._level _ c.args.self.now.set _ cells
    (m.told.all (c.if-is_within.ensures refl)) m.paints)

pub returns-then-clears_nothing-clause-whole : goal.returns-then-clears_nothing-clause-whole
returns-then-clears_nothing-clause-whole c base cells m =
    let e = c.if-clears_nothing.ensures refl in
    paints_nothing base c.args._level c.args.self.now.old c.args.self.now.set _ cells e.1 e.0
    m.paints

pub returns-then-is_beyond-clause-mixed : goal.returns-then-is_beyond-clause-mixed
returns-then-is_beyond-clause-mixed c e h =
    absurd (old_not_mixed c.args.self.now.old (sym c.old_whole.ensures ∙ e))

pub returns-then-is_within-clause-mixed : goal.returns-then-is_within-clause-mixed
returns-then-is_within-clause-mixed c e h =
    absurd (filled_not_mixed c.args.self.now.set (sym c.filled.ensures ∙ e))

pub returns-clause-mixed : goal.returns-clause-mixed
returns-clause-mixed c e h = blocks_some c.args._level h
