use Rattle.std.proofs.Common.{arith}
use Rattle.flood.proofs.BeyondLaws.{beyond_0, beyond_1, beyond_2, beyond_3, beyond_4, beyond_5, beyond_of}
use Rattle.flood.proofs.bit_regions.beyond.Goals as goal

pub returns-in-0 : goal.returns-in-0
returns-in-0 c =
    beyond_of c.in-0.is
    (beyond_0 c.args.size c.args.w c.args.bits (omega arith) c.if-w-lt3.true c.if-w-size.true)

pub returns-in-1 : goal.returns-in-1
returns-in-1 c =
    beyond_of c.in-1.is (beyond_1 c.args.size c.args.w c.args.bits c.requires.w c.if-w-gt0.true)

pub returns-in-2 : goal.returns-in-2
returns-in-2 c =
    beyond_of c.in-2.is
    (beyond_2 c.args.size c.args.w c.args.bits c.if-w-lt255.true c.if-w-size-2.true)

pub returns-in-3 : goal.returns-in-3
returns-in-3 c =
    beyond_of c.in-3.is (beyond_3 c.args.size c.args.w c.args.bits c.requires.w c.if-w-gt0-2.true)

pub returns-in-4 : goal.returns-in-4
returns-in-4 c = beyond_of c.in-4.is (beyond_4 c.args.size c.args.w c.args.bits c.if-w-size-3.true)

pub returns-in-5 : goal.returns-in-5
returns-in-5 c =
    beyond_of c.in-5.is (beyond_5 c.args.size c.args.w c.args.bits c.requires.w (omega arith))
