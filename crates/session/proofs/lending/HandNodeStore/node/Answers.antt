use Rattle.session.proofs.HitLaws.{node_hit}
use Rattle.session.proofs.lending.HandNodeStore.node.Goals as goal

pub returns-clause-hit : goal.returns-clause-hit
returns-clause-hit g c = λ row are.
    node_hit c.args.self.now.session.now.view c.node.new.pass.view c.args.level row c.node.result
    (c.node.ensures.taken row are)
