use Rattle.std.proofs.Common.{arith}
use Rattle.measure.proofs.WideningLaws.{bits_none, bits_more, bits_all}
use Rattle.measure.proofs.extents.with_leaf.Goals as goal

pub loop-bit-init : goal.loop-bit-init
loop-bit-init c =
    record {
      widens =
          λ cells shows. bits_none c.args.place cells c.args.found;
      ends = c.requires.found;
    }

pub loop-bit-preserved : goal.loop-bit-preserved
loop-bit-preserved c = record {
  widens = λ cells shows. bits_more c.args.place cells c.loop-bit.bit c.args.found c.loop-bit.wide _ (c.loop-bit.invariant.widens cells shows) (c.with_bit-wide.ensures.widens cells shows);
  ends = c.with_bit-wide.ensures.found;
}

pub returns-clause-widens : goal.returns-clause-widens
returns-clause-widens c cells shows =
    bits_all c.args.place cells c.loop-bit.bit c.args.found c.loop-bit.wide c.requires.level
    (omega arith) (c.loop-bit.invariant.widens cells shows)
