use Rattle.std.proofs.Common.{refl, sym, subst, ◌∙◌}
use Rattle.std.proofs.lemmas.Bool.{false≢true}
use Rattle.vw_cell.specs.declared.cells.Cell.{Cell}
use Rattle.vw_cell.specs.Places.{Meets, HoldsBlock}
use Rattle.edit_walk.specs.declared.cells.tasks.Whole.{Whole}
use Rattle.edit_walk.specs.cells.Tasks.{IsWhole}
use Rattle.edit_walk.proofs.OfCells.PaintLaws.{paints_missed, paints_held, paints_nothing, filled_not_mixed}
use Rattle.edit_walk.proofs.OfCells.WorldLaws.{blocks_some}
use Rattle.edit_stamp.proofs.StampLaws.{stamp_missed, stamp_empty, stamp_full}
use Rattle.edit_stamp.proofs.stamps.StampTaskTask.whole.Goals as goal

pub returns-then-not-meets-clause-whole : goal.returns-then-not-meets-clause-whole
returns-then-not-meets-clause-whole c base cells m =
    subst (λ (w : Whole). IsWhole base c.args.level cells w) (sym c.old_whole.ensures)
    (paints_missed base c.args.level c.args.self.now.old _ _ cells
    (stamp_missed c.args.self.now.stencil.now c.args.self.now.place.now
    (record { level = c.args.level; at = c.args.self.now.at })
    (λ h. false≢true
    (c.if-not-meets.ensures.1
    (subst (λ (s : Cell). Meets (record { at = c.args.self.now.place.now; size = s })
    (record { level = c.args.level; at = c.args.self.now.at }))
    (sym c.size.ensures.value) h)))) m.paints)

pub is_all-requires : goal.is_all-requires
is_all-requires c = let (base, cells, m) = c.requires.task in record { level = m.small }

pub is_all-requires-2 : goal.is_all-requires-2
is_all-requires-2 c = let (base, cells, m) = c.requires.task in record { level = m.small }

pub returns-then-is_all-clause-whole : goal.returns-then-is_all-clause-whole
returns-then-is_all-clause-whole c base cells m =
    subst (λ (w : Whole). IsWhole base c.args.level cells w) (sym c.old_whole-then-is_all.ensures)
    (paints_missed base c.args.level c.args.self.now.old _ _ cells
    (stamp_empty c.args.self.now.stencil.now c.args.self.now.place.now c.args.self.now.at c.args.level _ refl (c.if-is_all.ensures refl)) m.paints)

pub returns-then-is_all-2-clause-whole : goal.returns-then-is_all-2-clause-whole
returns-then-is_all-2-clause-whole c base cells m =
    subst (λ (w : Whole). IsWhole base c.args.level cells w) (sym c.filled.ensures)
    (paints_held base c.args.level _ c.args.self.now.set _ cells
    (stamp_full c.args.self.now.stencil.now c.args.self.now.place.now c.args.self.now.at c.args.level _ refl (c.if-is_all-2.ensures refl)
    (subst (λ (s : Cell). HoldsBlock (record { at = c.args.self.now.place.now; size = s })
    (record { level = c.args.level; at = c.args.self.now.at })) c.size.ensures.value
    (c.if-not-holds_block.ensures.0 refl))) m.paints)

pub returns-clause-mixed : goal.returns-clause-mixed
returns-clause-mixed c e h = blocks_some c.args.level h

pub returns-then-not-holds_block-clause-mixed : goal.returns-then-not-holds_block-clause-mixed
returns-then-not-holds_block-clause-mixed c e h = blocks_some c.args.level h

pub returns-then-clears_nothing-clause-whole : goal.returns-then-clears_nothing-clause-whole
returns-then-clears_nothing-clause-whole c base cells m =
    let e = c.if-clears_nothing.ensures refl in
    paints_nothing base c.args.level c.args.self.now.old c.args.self.now.set _ cells e.1 e.0 m.paints

pub returns-then-is_all-2-clause-mixed : goal.returns-then-is_all-2-clause-mixed
returns-then-is_all-2-clause-mixed c e h =
    absurd (filled_not_mixed c.args.self.now.set (sym c.filled.ensures ∙ e))
