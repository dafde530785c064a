use Rattle.std.proofs.Common.{arith}
use Rattle.measure.proofs.FaceLaws.{some_bare, number_bare, bare_small}
use Rattle.measure.proofs.exposed_sides.exposed_towards.Goals as goal

pub tally-requires : goal.tally-requires
tally-requires g c = (
  omega arith,
  (
    omega arith,
    (
      c.requires.level,
      (
        some_bare c.args.direction _ c.args.level c.args.block c.requires.block,
        (c.requires.part, (c.requires.parts, c.requires.wholes)),
      ),
    ),
  ),
)

pub returns-clause-number : goal.returns-clause-number
returns-clause-number g c =
    number_bare c.args.direction _ c.args.level _ c.args.block c.args.part c.tally.ensures.number

pub returns-clause-bound : goal.returns-clause-bound
returns-clause-bound g c =
    bare_small c.args.direction _ c.args.level _ c.args.block c.args.part c.requires.level c.requires.part c.requires.block c.tally.ensures.number
