use Rattle.measure.proofs.WideningLaws.{bit_unset, bit_set}
use Rattle.measure.proofs.extents.with_bit.Goals as goal

pub returns-then-not-has_bit-clause-widens : goal.returns-then-not-has_bit-clause-widens
returns-then-not-has_bit-clause-widens c =
    bit_unset c.args.bits c.args.bit c.args.place c.args.found c.has_bit.result c.requires.level c.requires.bit c.has_bit.ensures c.if-not-has_bit.true

pub returns-clause-widens : goal.returns-clause-widens
returns-clause-widens c =
    bit_set c.args.bits c.args.bit c.args.place c.cell_of.result c.args.found _ c.has_bit.result c.requires.level c.requires.bit c.has_bit.ensures c.if-not-has_bit.false c.cell_of.ensures.cell c.with_cell.ensures.widens
