use Rattle.std.proofs.Common.{refl, rules}
use Rattle.session.proofs.AttemptLaws.{rests_lent}
use Rattle.session.proofs.ForgetLaws.{knows_back}
use Rattle.session.proofs.PinLaws.{pinned_tells, pinned_walk}
use Rattle.session.proofs.world.World.ask.Goals as goal

pub answer_root-answer-requires-clause-root : goal.answer_root-answer-requires-clause-root
answer_root-answer-requires-clause-root c =
    pinned_walk c.args.self.now.table c.args.s.now c.args.p.now _ (search rules) c.requires.rest
    c.requires.pinned

pub returns-clause-tells : goal.returns-clause-tells
returns-clause-tells c =
    pinned_tells c.args.self.now.table c.args.s.now c.args.p.now _ (search rules) c.requires.rest
    c.requires.pinned c.args.self.now.tint c.args.question.now c.answer_root-answer.result
    c.answer_root-answer.ensures.tells

pub returns-clause-knows : goal.returns-clause-knows
returns-clause-knows c =
    knows_back c.args.self.now.table c.answer_root-answer.new.s
    (rests_lent c.args.self.now.table c.args.self.now.table c.args.s.now c.answer_root-answer.new.s refl
    c.requires.rest c.answer_root-answer.ensures.read.stays) c.tell.ensures
