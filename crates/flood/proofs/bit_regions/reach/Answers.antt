use Rattle.std.proofs.Common.{◌<◌, length, arith}
use Rattle.flood.proofs.ReachLaws.{reaches_none, reaches_pushed}
use Rattle.flood.proofs.bit_regions.reach.Goals as goal

pub returns-then-bits-was : goal.returns-then-bits-was
returns-then-bits-was c =
    record { reached = reaches_none c.args.clear.now c.args.reached.now c.args.stack.now.items c.args.there.word c.args.there.bits c.if-bits-was.true }

pub returns : goal.returns
returns c =
    let lt : c.args.there.word < length c.args.reached.now = omega arith in
    record { reached = reaches_pushed c.args.clear.now c.args.reached.now c.args.stack.now.items c.push.new.self.items c.args.there.word c.args.there.bits c.in_ok-push.ensures.items lt c.if-bits-was.false (omega arith) }
