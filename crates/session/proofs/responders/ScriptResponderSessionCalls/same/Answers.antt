use Rattle.session.proofs.DeskLaws.{desk_goes_on, same_if, same_sees}
use Rattle.session.specs.SessionWorlds.{of_world, session_view}
use Rattle.session.proofs.responders.ScriptResponderSessionCalls.same.Goals as goal

pub returns-clause-stands : goal.returns-clause-stands
returns-clause-stands g c =
    desk_goes_on c.args.self.now.world.now.table c.args.self.now.number c.args.self.now.first c.args.self.now.most c.args.self.now.session.now c.args.self.now.saves.now.items _ c.requires.stands c.same.new.s c.same.ensures.keeps.rest c.same.ensures.keeps.same
    (same_if c.args.self.now.session.now.view.held c.same.new.s.view.held c.same.ensures.keeps.held)
    (same_sees (of_world c.args.self.now.world.now c.args.self.now.number)
    (session_view c.args.self.now.session.now.view)
    (session_view c.same.new.s.view) c.args.v c.args.w c.same.result
    (c.same.ensures.told c.args.self.now.number))

pub returns-clause-told : goal.returns-clause-told
returns-clause-told g c =
    c.same.ensures.told c.args.self.now.number
