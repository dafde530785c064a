use Rattle.session.proofs.ForgetLaws.{knows_back}
use Rattle.session.proofs.world.World.ask_version.Goals as goal

pub returns-clause-knows : goal.returns-clause-knows
returns-clause-knows g c =
    knows_back c.args.self.now.table c.ask_on-answer.new.s c.ask_on-answer.ensures.calls.rest
    c.tell.ensures
