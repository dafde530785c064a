use Rattle.session.proofs.SeenLaws.{models_stay, rest_knows, side_stays}
use Rattle.session.proofs.SameLaws.{same_told}
use Rattle.session.proofs.world.World.same.Goals as goal

pub returns-clause-told : goal.returns-clause-told
returns-clause-told g c = λ number.
    same_told c.args.self.now number c.args.v c.args.w c.args.s.now.view c.same-told.new.pass.view
    c.same-told.ensures.looks
    (models_stay c.args.self.now.table c.args.s.now c.same-told.new.pass c.requires.rest
    c.same-told.ensures.looks)
    (side_stays c.args.self.now.table c.args.s.now c.same-told.new.pass c.requires.rest
    c.same-told.ensures.looks) c.same-told.result c.same-told.ensures.same c.same-told.ensures.refused

pub returns-clause-knows : goal.returns-clause-knows
returns-clause-knows g c =
    rest_knows c.args.self.now.table c.args.s.now c.same-told.new.pass c.requires.rest c.same-told.ensures.looks
    c.tell.ensures
