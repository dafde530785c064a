use Rattle.std.proofs.Common.{◌∙◌, refl, sym, subst}
use Rattle.std.proofs.lemmas.Bool.{false≢true}
use Rattle.edit_walk.specs.declared.cells.tasks.Whole.{Whole}
use Rattle.edit_walk.specs.cells.Tasks.{IsWhole}
use Rattle.edit_walk.proofs.OfCells.PaintLaws.{paints_missed, paints_held, paints_nothing, old_not_mixed, filled_not_mixed}
use Rattle.edit_walk.proofs.OfCells.WorldLaws.{blocks_some, in_side}
use Rattle.edit_ops.proofs.ClipLaws.{clip_missed, clip_outside, clip_held}
use Rattle.edit_ops.proofs.clips.ClipTaskTask.whole.Goals as goal

pub side_of-side-requires : goal.side_of-side-requires
side_of-side-requires c = let (base, cells, m) = c.requires.task in m.small

pub returns-then-not-meets-clause-whole : goal.returns-then-not-meets-clause-whole
returns-then-not-meets-clause-whole c base cells m =
    subst (λ (w : Whole). IsWhole base c.args.level cells w) (sym c.old_whole.ensures)
    (paints_missed base c.args.level c.args.self.now.old _ _ cells
    (clip_missed c.args.self.now.ball.now c.args.self.now.within.now c.args.level c.args.self.now.at
    (λ h. false≢true (c.if-not-meets.ensures.1 h))) m.paints)

pub returns-then-is_outside-clause-whole : goal.returns-then-is_outside-clause-whole
returns-then-is_outside-clause-whole c base cells m =
    subst (λ (w : Whole). IsWhole base c.args.level cells w)
    (sym c.old_whole-then-is_outside.ensures)
    (paints_missed base c.args.level c.args.self.now.old _ _ cells
    (clip_outside c.args.self.now.ball.now c.args.self.now.within.now c.args.level
    c.args.self.now.at
    (in_side _ _ _ _ c.side_of-side.ensures.value (c.if-is_outside.ensures refl))) m.paints)

pub returns-then-clears_nothing-clause-whole : goal.returns-then-clears_nothing-clause-whole
returns-then-clears_nothing-clause-whole c base cells m =
    let e = c.if-clears_nothing.ensures refl in
    paints_nothing base c.args.level c.args.self.now.old c.args.self.now.set _ cells e.1 e.0 m.paints

pub returns-then-is_inside-clause-whole : goal.returns-then-is_inside-clause-whole
returns-then-is_inside-clause-whole c base cells m =
    subst (λ (w : Whole). IsWhole base c.args.level cells w) (sym c.filled.ensures)
    (paints_held base c.args.level _ c.args.self.now.set _ cells
    (clip_held c.args.self.now.ball.now c.args.self.now.within.now c.args.level c.args.self.now.at
    (c.if-not-holds_block.ensures.0 refl)
    (in_side _ _ _ _ c.side_of-side.ensures.value (c.if-is_inside.ensures refl))) m.paints)

pub returns-then-not-meets-clause-mixed : goal.returns-then-not-meets-clause-mixed
returns-then-not-meets-clause-mixed c e h =
    absurd (old_not_mixed c.args.self.now.old (sym c.old_whole.ensures ∙ e))

pub returns-then-is_outside-clause-mixed : goal.returns-then-is_outside-clause-mixed
returns-then-is_outside-clause-mixed c e h =
    absurd (old_not_mixed c.args.self.now.old (sym c.old_whole-then-is_outside.ensures ∙ e))

pub returns-then-is_inside-clause-mixed : goal.returns-then-is_inside-clause-mixed
returns-then-is_inside-clause-mixed c e h =
    absurd (filled_not_mixed c.args.self.now.set (sym c.filled.ensures ∙ e))

pub returns-then-not-holds_block-clause-mixed : goal.returns-then-not-holds_block-clause-mixed
returns-then-not-holds_block-clause-mixed c e h = blocks_some c.args.level h

pub returns-clause-mixed : goal.returns-clause-mixed
returns-clause-mixed c e h = blocks_some c.args.level h
