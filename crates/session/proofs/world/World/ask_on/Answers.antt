use Rattle.std.proofs.Common.{rules}
use Rattle.session.proofs.AskLaws.{asked_told, few_pinned, may_walk_as, refused}
use Rattle.session.proofs.world.World.ask_on.Goals as goal

pub answer_root-answer-requires-clause-root : goal.answer_root-answer-requires-clause-root
answer_root-answer-requires-clause-root g c =
    may_walk_as c.args.self.now.table c.args.s.now c.pin.new.pass c.args.version c.in-Ok.field-0 _
    (search rules) c.requires.ready.rest c.in-Ok.ensures.looks c.in-Ok.ensures.pinned

pub give_back-requires-clause-room : goal.give_back-requires-clause-room
give_back-requires-clause-room g c =
    few_pinned c.args.s.now.view c.pin.new.pass.view c.answer_root-answer.new.s.view
    c.in-Ok.field-0.root c.in-Ok.ensures.pinned.gains c.answer_root-answer.ensures.read.seen
    c.requires.ready.room

pub returns-in-Ok-clause-told : goal.returns-in-Ok-clause-told
returns-in-Ok-clause-told g c =
    λ number.
    asked_told c.args.self.now number c.args.version c.args.question c.args.s.now c.pin.new.pass
    c.in-Ok.field-0 c.answer_root-answer.result c.requires.ready.rest c.in-Ok.ensures.looks
    c.in-Ok.ensures.pinned _ (search rules) c.answer_root-answer.ensures.tells
    c.answer_root-answer.ensures.resting
    c.answer_root-answer.new.s c.give_back.new.s c.answer_root-answer.ensures.read.stays
    c.answer_root-answer.ensures.read.seen c.give_back.ensures.stays c.give_back.ensures.only

pub returns-clause-told : goal.returns-clause-told
returns-clause-told g c =
    λ number.
    refused c.args.version c.args.s.now.view c.pin.new.pass.view c.in-Err.refused
    c.in-Err.ensures.looks c.in-Err.ensures.refused

pub returns-in-Ok-clause-calls : goal.returns-in-Ok-clause-calls
returns-in-Ok-clause-calls g c =
    record { rest = search rules; same = search rules; held = search rules }

pub returns-clause-calls : goal.returns-clause-calls
returns-clause-calls g c =
    record { rest = search rules; same = search rules; held = search rules }
