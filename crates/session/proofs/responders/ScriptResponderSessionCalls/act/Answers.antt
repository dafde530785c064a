use Rattle.session.proofs.DeskLaws.{act_sees, desk_goes_on, few_shares}
use Rattle.session.specs.SessionWorlds.{of_world, session_view}
use Rattle.session.proofs.responders.ScriptResponderSessionCalls.act.Goals as goal

pub returns-clause-stands : goal.returns-clause-stands
returns-clause-stands g c =
    desk_goes_on c.args.self.now.world.now.table c.args.self.now.number c.args.self.now.first c.args.self.now.most c.args.self.now.session.now c.args.self.now.saves.now.items _ c.requires.stands c.act.new.s c.act.ensures.calls.rest c.act.ensures.calls.same
    c.act.ensures.calls.held
    (act_sees (of_world c.args.self.now.world.now c.args.self.now.number)
    (session_view c.args.self.now.session.now.view)
    (session_view c.act.new.s.view) c.args.line c.args.act c.act.result
    (c.act.ensures.told c.args.self.now.number c.requires.stands.mine))

pub act-requires-clause-ready : goal.act-requires-clause-ready
act-requires-clause-ready g c =
    record {
      rest = c.requires.stands.rest;
      room = few_shares c.args.self.now.world.now.table c.args.self.now.number c.args.self.now.first c.args.self.now.most c.args.self.now.session.now c.args.self.now.saves.now.items _ c.requires.stands;
    }
