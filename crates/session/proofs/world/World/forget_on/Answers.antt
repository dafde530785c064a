use Rattle.std.proofs.Common.{rules}
use Rattle.session.proofs.ForgetLaws.{few_held, forgot_told, refused_told}
use Rattle.session.proofs.world.World.forget_on.Goals as goal

pub give_back-requires-clause-room : goal.give_back-requires-clause-room
give_back-requires-clause-room g c =
    few_held c.args.s.now.view c.forget.new.pass.view c.args.version c.args.line c.in-Ok.field-0
    c.in-Ok.ensures.forgets c.requires.ready.room

pub returns-in-Ok-clause-told : goal.returns-in-Ok-clause-told
returns-in-Ok-clause-told g c = λ number one.
    forgot_told c.args.self.now number c.args.line c.args.version c.args.s.now.view
    c.forget.new.pass c.give_back.new.s c.in-Ok.field-0 one c.in-Ok.ensures.forgets
    c.give_back.ensures.stays c.give_back.ensures.only

pub returns-clause-told : goal.returns-clause-told
returns-clause-told g c = λ number one.
    refused_told c.args.self.now number c.args.line c.args.version c.args.s.now.view c.forget.new.pass.view
    c.in-Err.refused c.in-Err.ensures.looks
    c.in-Err.ensures.refused

pub returns-in-Ok-clause-calls : goal.returns-in-Ok-clause-calls
returns-in-Ok-clause-calls g c =
    record { rest = search rules; same = search rules; held = search rules }

pub returns-clause-calls : goal.returns-clause-calls
returns-clause-calls g c =
    record { rest = search rules; same = search rules; held = search rules }
