use Rattle.session.proofs.EditLaws.{stale_answers}
use Rattle.session.proofs.world.World.edit_anew.Goals as goal

pub returns-in-Stale-clause-told : goal.returns-in-Stale-clause-told
returns-in-Stale-clause-told g c =
    stale_answers c.args.self.now c.args.line c.args.act.now _ _ _ c.args.s.now.view
    c.attempt_anew.new.s.view c.surely_anew.new.s.view
    c.attempt_anew.ensures.calls.same.session.numbers c.in-Stale.ensures.told
    c.surely_anew.ensures.told
