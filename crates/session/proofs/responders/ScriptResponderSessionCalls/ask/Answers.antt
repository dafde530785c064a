use Rattle.session.proofs.DeskLaws.{ask_sees, desk_goes_on, few_shares}
use Rattle.session.specs.SessionWorlds.{of_world, session_view}
use Rattle.session.proofs.responders.ScriptResponderSessionCalls.ask.Goals as goal

pub returns-clause-stands : goal.returns-clause-stands
returns-clause-stands g c =
    desk_goes_on c.args.self.now.world.now.table c.args.self.now.number c.args.self.now.first c.args.self.now.most c.args.self.now.session.now c.args.self.now.saves.now.items _ c.requires.stands c.ask_version.new.s c.ask_version.ensures.calls.rest c.ask_version.ensures.calls.same
    c.ask_version.ensures.calls.held
    (ask_sees (of_world c.args.self.now.world.now c.args.self.now.number)
    (session_view c.args.self.now.session.now.view)
    (session_view c.ask_version.new.s.view) c.args.version c.args.question c.ask_version.result (c.ask_version.ensures.told c.args.self.now.number))

pub returns-clause-told : goal.returns-clause-told
returns-clause-told g c =
    c.ask_version.ensures.told c.args.self.now.number

pub ask_version-requires-clause-ready : goal.ask_version-requires-clause-ready
ask_version-requires-clause-ready g c =
    record {
      rest = c.requires.stands.rest;
      room = few_shares c.args.self.now.world.now.table c.args.self.now.number c.args.self.now.first c.args.self.now.most c.args.self.now.session.now c.args.self.now.saves.now.items _ c.requires.stands;
    }
