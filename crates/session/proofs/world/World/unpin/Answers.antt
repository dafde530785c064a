use Rattle.session.proofs.ForgetLaws.{knows_back}
use Rattle.session.proofs.PinLaws.{pinned_may}
use Rattle.session.proofs.world.World.unpin.Goals as goal

pub unpin_on-requires-clause-held : goal.unpin_on-requires-clause-held
unpin_on-requires-clause-held g c =
    pinned_may c.args.s.now.view c.args.p c.requires.pinned

pub returns-clause-knows : goal.returns-clause-knows
returns-clause-knows g c =
    knows_back c.args.self.now.table c.unpin_on.new.s c.unpin_on.ensures.back.rest c.tell.ensures
