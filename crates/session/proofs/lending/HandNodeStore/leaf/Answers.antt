use Rattle.session.proofs.HitLaws.{leaf_hit}
use Rattle.session.proofs.lending.HandNodeStore.leaf.Goals as goal

pub returns-clause-hit : goal.returns-clause-hit
returns-clause-hit g c =
    leaf_hit c.args.self.now.session.now.view c.leaf.new.pass.view c.args.bits c.leaf.result
    c.leaf.ensures.taken
