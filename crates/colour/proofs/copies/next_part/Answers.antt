use Rattle.std.proofs.Common.{arith}
use Rattle.colour.specs.Made.{copy_parts}
use Rattle.colour.proofs.MadeLaws.{lent_back, lent_made}
use Rattle.colour.proofs.copies.next_part.Goals as goal

pub back_if-requires-clause-held : goal.back_if-requires-clause-held
back_if-requires-clause-held g c =
    (lent_back _ _ c.args.side _ c.args.now (copy_parts c.args.side c.args.b c.args.to c.args.plane)
    c.copy_part-next.result c.as_ref.ensures.value c.requires.may.root_is c.copy_part-next.ensures.made).0

pub back_if-requires-clause-room : goal.back_if-requires-clause-room
back_if-requires-clause-room g c =
    let n =
    (lent_back _ _ c.args.side _ c.args.now
    (copy_parts c.args.side c.args.b c.args.to c.args.plane)
    c.copy_part-next.result c.as_ref.ensures.value c.requires.may.root_is c.copy_part-next.ensures.made).1 in
    let room = c.requires.may.room in
    omega (arith, n, room)

pub returns-clause-made : goal.returns-clause-made
returns-clause-made g c first root so_far =
    lent_made first _ _ _ c.args.side c.args.plane root _ c.args.now
    (copy_parts c.args.side c.args.b c.args.to)
    c.copy_part-next.result c.as_ref.ensures.value so_far c.copy_part-next.ensures.made
    c.back_if.ensures.gone c.back_if.ensures.only
