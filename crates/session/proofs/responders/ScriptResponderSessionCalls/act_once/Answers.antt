use Rattle.session.proofs.DeskLaws.{desk_goes_on, few_shares, once_sees}
use Rattle.session.specs.SessionWorlds.{of_world, session_view}
use Rattle.session.proofs.responders.ScriptResponderSessionCalls.act_once.Goals as goal

pub returns-clause-stands : goal.returns-clause-stands
returns-clause-stands g c =
    desk_goes_on c.args.self.now.world.now.table c.args.self.now.number c.args.self.now.first c.args.self.now.most c.args.self.now.session.now c.args.self.now.saves.now.items _ c.requires.stands c.act_once.new.s c.act_once.ensures.calls.rest c.act_once.ensures.calls.same
    c.act_once.ensures.calls.held
    (once_sees (of_world c.args.self.now.world.now c.args.self.now.number)
    (session_view c.args.self.now.session.now.view)
    (session_view c.act_once.new.s.view) c.args.line c.args.act c.act_once.result
    (c.act_once.ensures.told c.args.self.now.number c.requires.stands.mine))

pub act_once-requires-clause-ready : goal.act_once-requires-clause-ready
act_once-requires-clause-ready g c =
    record {
      rest = c.requires.stands.rest;
      room = few_shares c.args.self.now.world.now.table c.args.self.now.number c.args.self.now.first c.args.self.now.most c.args.self.now.session.now c.args.self.now.saves.now.items _ c.requires.stands;
    }
