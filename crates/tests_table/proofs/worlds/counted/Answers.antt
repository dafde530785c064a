use Rattle.std.proofs.Common.{None, arith}
use Rattle.edit_walk.proofs.OfCells.WorldLaws.{root_shown}
use Rattle.tests_table.proofs.Making.{made_root, made_may, made_number, made_and_given, same_kept}
use Rattle.tests_table.proofs.worlds.counted.Goals as goal

pub count-number-requires-clause-root : goal.count-number-requires-clause-root
count-number-requires-clause-root g c =
    let (before, w) = root_shown _ c.args.side None tt in
    made_root _ _ c.args.side _ _ _ (c.in-Ok.ensures.made before w).came c.as_ref.ensures.value

pub back_if-requires-clause-held : goal.back_if-requires-clause-held
back_if-requires-clause-held g c =
    let (before, w) = root_shown _ c.args.side None tt in
    made_may _ _ _ c.args.side _ _ (c.in-Ok.ensures.made before w).came c.count-number.ensures.seen

pub back_if-requires-clause-room : goal.back_if-requires-clause-room
back_if-requires-clause-room g c =
    let (before, w) = root_shown _ c.args.side None tt in
    let few = made_number _ _ _ c.args.side 3000 _ _ (c.in-Ok.ensures.made before w).came
    c.count-number.ensures.seen c.requires.room in omega arith

pub returns-in-Ok-clause-held : goal.returns-in-Ok-clause-held
returns-in-Ok-clause-held g c =
    let seen = g.N.Blocks.seen in
    let (before, w) = root_shown _ c.args.side None tt in
    made_and_given (seen c.args.store.now) (seen c.rebuild_box.new.store)
    (seen c.count-number.new.store) (seen c.back_if.new.store) c.args.side c.in-Ok.root _
    (c.in-Ok.ensures.made before w).came c.count-number.ensures.seen c.back_if.ensures.gone

pub returns-clause-held : goal.returns-clause-held
returns-clause-held g c =
    let seen = g.N.Blocks.seen in
    let (before, w) = root_shown _ c.args.side None tt in
    same_kept (seen c.args.store.now) (seen c.rebuild_box.new.store)
    (c.in-Err.ensures.made before w).held
