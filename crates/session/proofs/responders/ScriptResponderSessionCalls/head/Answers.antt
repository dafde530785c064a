use Rattle.session.proofs.DeskLaws.{desk_goes_on, head_sees, same_if}
use Rattle.session.specs.SessionWorlds.{of_world, session_view}
use Rattle.session.proofs.responders.ScriptResponderSessionCalls.head.Goals as goal

pub returns-clause-stands : goal.returns-clause-stands
returns-clause-stands g c =
    desk_goes_on c.args.self.now.world.now.table c.args.self.now.number c.args.self.now.first c.args.self.now.most c.args.self.now.session.now c.args.self.now.saves.now.items _ c.requires.stands c.head.new.s c.head.ensures.keeps.rest c.head.ensures.keeps.same
    (same_if c.args.self.now.session.now.view.held c.head.new.s.view.held c.head.ensures.keeps.held)
    (head_sees (of_world c.args.self.now.world.now c.args.self.now.number)
    (session_view c.args.self.now.session.now.view)
    (session_view c.head.new.s.view) c.head.result c.head.ensures.told)
