use Rattle.std.proofs.Common.{refl, arith}
use Rattle.std.proofs.lemmas.Bool.{false≢true}
use Rattle.voxdag_c.proofs.OfHeld.Opening.{four_few, four_side, store_is}
use Rattle.voxdag_c.proofs.held.worlds.fourfold.Goals as goal

pub returns-in-Some-clause-exactly : goal.returns-in-Some-clause-exactly
returns-in-Some-clause-exactly c =
    let store = c.exponent-exponent.ensures.value in
    let few = c.exponent-exponent.ensures.bounds in (
      λ _. four_few c.args.world c.in-Some.store c.cells.result (omega (arith, store, few))
          c.cells.ensures.value c.in-Some.ensures.value,
      λ _. refl,
    )

pub returns-in-Some-clause-four : goal.returns-in-Some-clause-four
returns-in-Some-clause-four c =
    let world = c.exponent-world.ensures.value in
    let low = c.exponent-world.ensures.bounds in
    let store = c.exponent-exponent.ensures.value in
    let few = c.exponent-exponent.ensures.bounds in
    store_is c.args.world c.in-Some.store c.cells.result (omega (arith, world, low))
    (omega (arith, store, few)) (omega (arith, store, few)) c.cells.ensures.value
    c.in-Some.ensures.value

pub returns-in-None-clause-exactly : goal.returns-in-None-clause-exactly
returns-in-None-clause-exactly c =
    let world = c.exponent-world.ensures.value in
    let low = c.exponent-world.ensures.bounds in (
      λ none. absurd (false≢true none),
      λ few. c.in-None.ensures.exactly.1
          (four_side c.args.world c.cells.result (omega (arith, world, low))
          c.cells.ensures.value few),
    )
