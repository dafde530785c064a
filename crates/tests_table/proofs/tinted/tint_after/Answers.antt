use Rattle.std.proofs.Common.{◌^◌, ℕ, refl, subst, arith}
use Rattle.vw_cell.specs.Places.{IsInWorld}
use Rattle.colour.proofs.Quarters.{quarter_is}
use Rattle.edit_walk.proofs.OfCells.WorldLaws.{root_shown}
use Rattle.tests_table.proofs.Making.{made_root, made_may, made_number, made_and_given, same_kept}
use Rattle.tests_table.proofs.tinted.tint_after.Goals as goal

pub tint_at-tint-requires-clause-root : goal.tint_at-tint-requires-clause-root
tint_at-tint-requires-clause-root g c =
    let (before, w) = root_shown _ c.args.side _ c.requires.old in
    made_root _ _ c.args.side _ _ _ ((c.in-Ok.ensures.made before w).came) c.as_ref.ensures.value

pub tint_at-tint-requires-clause-cell : goal.tint_at-tint-requires-clause-cell
tint_at-tint-requires-clause-cell g c =
    let large = c.requires.large in
    subst (λ (n : ℕ). IsInWorld n c.args.at)
    (quarter_is c.args.side (2 ^ c.args.side) (omega (arith, large)) refl) c.requires.at

pub back_if-requires-clause-held : goal.back_if-requires-clause-held
back_if-requires-clause-held g c =
    let (before, w) = root_shown _ c.args.side _ c.requires.old in
    made_may _ _ _ c.args.side _ _ ((c.in-Ok.ensures.made before w).came) c.tint_at-tint.ensures.seen

pub back_if-requires-clause-room : goal.back_if-requires-clause-room
back_if-requires-clause-room g c =
    let (before, w) = root_shown _ c.args.side _ c.requires.old in
    let few = made_number _ _ _ c.args.side 3001 _ _ ((c.in-Ok.ensures.made before w).came)
    c.tint_at-tint.ensures.seen c.requires.room in omega arith

pub returns-in-Ok-clause-held : goal.returns-in-Ok-clause-held
returns-in-Ok-clause-held g c =
    let seen = g.N.Blocks.seen in
    let (before, w) = root_shown _ c.args.side _ c.requires.old in
    made_and_given (seen c.args.store.now) (seen c.rebuild_act.new.store)
    (seen c.tint_at-tint.new.store) (seen c.back_if.new.store) c.args.side c.in-Ok.root _
    ((c.in-Ok.ensures.made before w).came) c.tint_at-tint.ensures.seen c.back_if.ensures.gone

pub returns-in-Err-clause-held : goal.returns-in-Err-clause-held
returns-in-Err-clause-held g c =
    let seen = g.N.Blocks.seen in
    let (before, w) = root_shown _ c.args.side _ c.requires.old in
    same_kept (seen c.args.store.now) (seen c.rebuild_act.new.store)
    (c.in-Err.ensures.made before w).held
