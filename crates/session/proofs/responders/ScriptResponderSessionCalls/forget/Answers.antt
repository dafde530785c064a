use Rattle.session.proofs.DeskLaws.{desk_goes_on, few_shares, forget_sees}
use Rattle.session.specs.SessionWorlds.{of_world, session_view}
use Rattle.session.proofs.responders.ScriptResponderSessionCalls.forget.Goals as goal

pub returns-clause-stands : goal.returns-clause-stands
returns-clause-stands g c =
    desk_goes_on c.args.self.now.world.now.table c.args.self.now.number c.args.self.now.first c.args.self.now.most c.args.self.now.session.now c.args.self.now.saves.now.items _ c.requires.stands c.forget.new.s c.forget.ensures.calls.rest c.forget.ensures.calls.same
    c.forget.ensures.calls.held
    (forget_sees (of_world c.args.self.now.world.now c.args.self.now.number)
    (session_view c.args.self.now.session.now.view)
    (session_view c.forget.new.s.view) c.args.line c.args.version c.forget.result
    (c.forget.ensures.told c.args.self.now.number c.requires.stands.mine))

pub forget-requires : goal.forget-requires
forget-requires g c =
    record {
      ready = record {
        rest = c.requires.stands.rest;
        room = few_shares c.args.self.now.world.now.table c.args.self.now.number c.args.self.now.first c.args.self.now.most c.args.self.now.session.now c.args.self.now.saves.now.items _ c.requires.stands;
      };
    }
