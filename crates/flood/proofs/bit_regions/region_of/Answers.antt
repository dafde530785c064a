use Rattle.std.proofs.Common.{◌≡◌, ℕ, length, refl, arith, replicate, rules, ap, ◌∙◌}
use Rattle.std.proofs.lemmas.List.{length-replicate}
use Rattle.flood.proofs.ReachLaws.{region_written}
use Rattle.flood.proofs.bit_regions.region_of.Goals as goal

pub returns-clause-region : goal.returns-clause-region
returns-clause-region c =
    let zeros : c.in_ok-reached.reached.items ≡ replicate (length c.args.clear.now) 0 =
    search rules in
    let many : length c.in_ok-reached.reached.items ≡ length c.args.clear.now =
    ap length zeros ∙ length-replicate {A = ℕ} (length c.args.clear.now) 0 in
    let len = c.in_ok-reached.ensures.len in
    let fits : c.in_ok-reached.reached.len ≡ length c.in_ok-reached.reached.items =
    omega (arith, len, many) in
    region_written c.args.clear.now c.in_ok-reached.reached.items c.deref_mut.result.now c.settle.new.reached c.new-stack.result.items c.push.new.self.items (length c.args.clear.now) c.in_ok-reached.reached.len c.args.start _ zeros refl c.requires.start refl c.deref_mut.ensures.value fits c.new-stack.ensures.items c.in_ok-push.ensures.items c.in_ok-settle.ensures.settled
