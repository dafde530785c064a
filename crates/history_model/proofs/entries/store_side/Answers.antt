use Rattle.std.proofs.Common.{arith}
use Rattle.history_model.proofs.MarkLaws.{store_side_is}
use Rattle.history_model.proofs.entries.store_side.Goals as goal

pub returns-in-Some : goal.returns-in-Some
returns-in-Some c =
    let world = c.exponent-world.ensures.value in
    let low = c.exponent-world.ensures.bounds in
    let side = c.exponent-exponent.ensures.value in
    let few = c.exponent-exponent.ensures.bounds in
    store_side_is c.args.world c.in-Some.side c.cells.result (omega (arith, world, low))
    (omega (arith, side, few))
    (omega (arith, side, few)) c.cells.ensures.value c.in-Some.ensures.value
