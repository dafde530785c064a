use Rattle.std.proofs.Common.{◌∙◌, None, refl, sym, ap, arith}
use Rattle.node_words.specs.Plans.{Layout}
use Rattle.edit_walk.proofs.OfCells.WorldLaws.{root_shown}
use Rattle.tests_table.proofs.Making.{made_root, made_number, may_later, given_later, number_later, same_kept}
use Rattle.tests_table.proofs.tinted.tint_after_both.Goals as goal

pub tint_after-tint-requires-clause-side : goal.tint_after-tint-requires-clause-side
tint_after-tint-requires-clause-side g c =
    let (before, w) = root_shown _ c.args.side None tt in
    c.requires.side ∙ sym (ap (λ (p : Layout). p.side) (c.in-Ok.ensures.made before w).grows.plan)

pub tint_after-tint-requires-clause-old : goal.tint_after-tint-requires-clause-old
tint_after-tint-requires-clause-old g c =
    let (before, w) = root_shown _ c.args.side None tt in
    made_root _ _ c.args.side _ _ _ ((c.in-Ok.ensures.made before w).came) c.as_ref.ensures.value

pub tint_after-tint-requires-clause-room : goal.tint_after-tint-requires-clause-room
tint_after-tint-requires-clause-room g c =
    let (before, w) = root_shown _ c.args.side None tt in
    made_number _ _ _ c.args.side 3000 _ _ ((c.in-Ok.ensures.made before w).came) refl c.requires.room

pub back_if-requires-clause-held : goal.back_if-requires-clause-held
back_if-requires-clause-held g c =
    let (before, w) = root_shown _ c.args.side None tt in
    may_later _ _ _ c.args.side _ _ ((c.in-Ok.ensures.made before w).came) c.tint_after-tint.ensures.held

pub back_if-requires-clause-room : goal.back_if-requires-clause-room
back_if-requires-clause-room g c =
    let (before, w) = root_shown _ c.args.side None tt in
    let few = number_later _ _ _ c.args.side _ _ ((c.in-Ok.ensures.made before w).came)
    c.tint_after-tint.ensures.held 3000 c.requires.room in omega arith

pub returns-in-Ok-clause-held : goal.returns-in-Ok-clause-held
returns-in-Ok-clause-held g c =
    let (before, w) = root_shown _ c.args.side None tt in
    given_later _ _ _ c.args.side c.in-Ok.root _ ((c.in-Ok.ensures.made before w).came)
    c.tint_after-tint.ensures.held _ c.back_if.ensures.gone

pub returns-clause-held : goal.returns-clause-held
returns-clause-held g c =
    let seen = g.N.Blocks.seen in
    let (before, w) = root_shown _ c.args.side None tt in
    same_kept (seen c.args.store.now) (seen c.rebuild_act.new.store)
    (c.in-Err.ensures.made before w).held
