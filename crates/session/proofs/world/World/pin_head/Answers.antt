use Rattle.std.proofs.Common.{rules}
use Rattle.session.proofs.CommitLaws.{head_pinned}
use Rattle.session.proofs.world.World.pin_head.Goals as goal

pub returns-clause-head : goal.returns-clause-head
returns-clause-head g c =
    head_pinned c.args.s.now.view c.pin.new.pass.view _ (search rules)
