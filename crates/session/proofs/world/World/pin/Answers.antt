use Rattle.session.proofs.ForgetLaws.{knows_back}
use Rattle.session.proofs.world.World.pin.Goals as goal

pub returns-clause-knows : goal.returns-clause-knows
returns-clause-knows g c =
    knows_back c.args.self.now.table c.pin_on-answer.new.s c.pin_on-answer.ensures.back.rest
    c.tell.ensures
