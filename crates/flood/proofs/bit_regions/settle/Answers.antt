use Rattle.flood.proofs.ReachLaws.{settling_one, last_inside, settled, emptied}
use Rattle.flood.proofs.bit_regions.settle.Goals as goal

pub visit-requires-clause-w : goal.visit-requires-clause-w
visit-requires-clause-w c =
    last_inside c.args.clear.now c.loop-w.stack.items c.pop.new.self.items c.in-Some.w c.in-Some.ensures.items c.loop-w.invariant.settling.inside

pub loop-w-preserved : goal.loop-w-preserved
loop-w-preserved c =
    record { settling = settling_one c.args.clear.now c.args.reached.now c.loop-w.reached c.visit.new.reached c.args.stack.now.items c.loop-w.stack.items c.pop.new.self.items c.visit.new.stack.items c.in-Some.w c.in-Some.ensures.items c.loop-w.invariant.settling c.in_ok-visit.ensures.visited }

pub returns : goal.returns
returns c = record { settled = settled c.args.clear.now c.args.reached.now c.loop-w.reached c.args.stack.now.items c.loop-w.stack.items (emptied c.loop-w.stack.items c.pop.new.self.items _ c.in_default.ensures.cases.0 c.in_default.ensures.items c.in_default.ensures.rest) c.loop-w.invariant.settling }
