use Rattle.std.proofs.Common.{◌<◌, length, set, arith}
use Rattle.flood.proofs.ReachLaws.{spills_none, spills_next, visits}
use Rattle.flood.proofs.bit_regions.visit.Goals as goal

pub returns : goal.returns
returns c =
    let old = c.args.reached.now in
    let mine = c.spread-bits.result in
    let lt : c.args.w < length old = omega arith in
    let none =
    spills_none c.args.clear.now (set old c.args.w mine) c.args.stack.now.items c.args.w in
    let one =
    spills_next c.args.clear.now old
    (set old c.args.w mine) c.reach_beyond.new.reached c.args.stack.now.items c.args.stack.now.items c.reach_beyond.new.stack.items c.args.w 0 mine lt c.spread-bits.ensures none c.in_ok-reach_beyond.ensures.reached in
    let two =
    spills_next c.args.clear.now old c.reach_beyond.new.reached c.reach_beyond-2.new.reached c.args.stack.now.items c.reach_beyond.new.stack.items c.reach_beyond-2.new.stack.items c.args.w 1 mine lt c.spread-bits.ensures one c.in_ok-reach_beyond-2.ensures.reached in
    let three =
    spills_next c.args.clear.now old c.reach_beyond-2.new.reached c.reach_beyond-3.new.reached c.args.stack.now.items c.reach_beyond-2.new.stack.items c.reach_beyond-3.new.stack.items c.args.w 2 mine lt c.spread-bits.ensures two c.in_ok-reach_beyond-3.ensures.reached in
    let four =
    spills_next c.args.clear.now old c.reach_beyond-3.new.reached c.reach_beyond-4.new.reached c.args.stack.now.items c.reach_beyond-3.new.stack.items c.reach_beyond-4.new.stack.items c.args.w 3 mine lt c.spread-bits.ensures three c.in_ok-reach_beyond-4.ensures.reached in
    let five =
    spills_next c.args.clear.now old c.reach_beyond-4.new.reached c.reach_beyond-5.new.reached c.args.stack.now.items c.reach_beyond-4.new.stack.items c.reach_beyond-5.new.stack.items c.args.w 4 mine lt c.spread-bits.ensures four c.in_ok-reach_beyond-5.ensures.reached in
    let six =
    spills_next c.args.clear.now old c.reach_beyond-5.new.reached c.reach_beyond-6.new.reached c.args.stack.now.items c.reach_beyond-5.new.stack.items c.reach_beyond-6.new.stack.items c.args.w 5 mine lt c.spread-bits.ensures five c.in_ok-reach_beyond-6.ensures.reached in
    record { visited = visits c.args.clear.now old c.reach_beyond-6.new.reached c.args.stack.now.items c.reach_beyond-6.new.stack.items c.args.w mine lt c.spread-bits.ensures six }
