use Rattle.std.proofs.Common.{◌∙◌, ◌^◌, refl, subst, arith, rules}
use Rattle.conformance.specs.sessions.Lines.{AnswersLine}
use Rattle.conformance.specs.sessions.SessionViews.{SessionOf}
use Rattle.conformance.proofs.OfSessions.Looping.{all_lines, asked_next, asked_within, next_earlier, next_line, no_lines}
use Rattle.conformance.proofs.OfSessions.SuitLaws.{command_suits}
use Rattle.conformance.proofs.sessions.runs.run_lines.Goals as goal

pub loop-line-init : goal.loop-line-init
loop-line-init g c = record {
  of = refl;
  ran = no_lines (g.D.LineResponder.of c.args.responder.now) c.args.answers.now.items
      (g.D.LineResponder.seen c.args.responder.now)
      (g.D.LineResponder.saved c.args.responder.now) c.requires.idle;
  len = omega arith;
  capacity = refl;
  saves = (let s = c.requires.saves in omega arith);
  stands = c.requires.stands;
  rests = g.met.D.LineResponder.rests_itself _;
}

pub answer-answer-requires-clause-earlier : goal.answer-answer-requires-clause-earlier
answer-answer-requires-clause-earlier g c =
    next_earlier
    (g.D.LineResponder.of c.args.responder.now) c.args.lines.now c.loop-line.line-index c.line-item.result c.args.answers.now.items c.loop-line.answers.items
    (g.D.LineResponder.seen c.args.responder.now) (g.D.LineResponder.seen c.loop-line.responder)
    (g.D.LineResponder.saved c.args.responder.now)
    (g.D.LineResponder.saved c.loop-line.responder) c.loop-line-test.true c.requires.rises c.line-item.is c.loop-line.invariant.ran

pub answer-answer-requires-clause-room : goal.answer-answer-requires-clause-room
answer-answer-requires-clause-room g c =
    let was = c.loop-line.invariant.saves in
    let within =
    asked_within c.args.lines.now c.loop-line.line-index c.line-item.result c.loop-line-test.true c.line-item.is in
    omega arith

pub loop-line-preserved : goal.loop-line-preserved
loop-line-preserved g c =
    let len = c.loop-line.invariant.len in
    let pushed = c.push_reserved.ensures.len in
    record {
      of = c.answer-answer.ensures.of ∙ c.loop-line.invariant.of;
      ran =
          next_line (g.D.LineResponder.of c.args.responder.now) c.args.lines.now c.loop-line.line-index c.line-item.result c.args.answers.now.items c.loop-line.answers.items
          c.push_reserved.new.self.items (g.D.LineResponder.seen c.args.responder.now)
          (g.D.LineResponder.seen c.loop-line.responder)
          (g.D.LineResponder.seen c.answer-answer.new.self)
          (g.D.LineResponder.saved c.args.responder.now)
          (g.D.LineResponder.saved c.loop-line.responder)
          (g.D.LineResponder.saved c.answer-answer.new.self) c.answer-answer.result c.loop-line-test.true c.requires.rises c.line-item.is
          (command_suits (g.D.LineResponder.of c.args.responder.now).tint
          (2 ^ (g.D.LineResponder.of c.args.responder.now).plan.side)
          (g.D.LineResponder.of c.args.responder.now).models c.line-item.result.command
          (search rules)) c.loop-line.invariant.ran
          (subst (λ (of : SessionOf). AnswersLine of c.line-item.result
          (g.D.LineResponder.seen c.loop-line.responder)
          (g.D.LineResponder.seen c.answer-answer.new.self) c.answer-answer.result) c.loop-line.invariant.of c.answer-answer.ensures.takes)
          c.answer-answer.ensures.saved c.push_reserved.ensures.items;
      len = omega arith;
      saves = (let room = c.answer-answer.ensures.room in let was = c.loop-line.invariant.saves in let next = asked_next c.args.lines.now c.loop-line.line-index c.line-item.result c.loop-line-test.true c.line-item.is in omega arith);
      stands = c.answer-answer.ensures.stands;
      rests = g.met.D.LineResponder.rests_on _ _ _ c.loop-line.invariant.rests c.answer-answer.ensures.rests;
      capacity = c.push_reserved.ensures.capacity ∙ c.loop-line.invariant.capacity;
    }

pub returns-clause-ran : goal.returns-clause-ran
returns-clause-ran g c =
    all_lines (g.D.LineResponder.of c.args.responder.now) c.args.lines.now c.loop-line.line-index c.args.answers.now.items c.loop-line.answers.items (g.D.LineResponder.seen c.args.responder.now)
    (g.D.LineResponder.seen c.loop-line.responder) (g.D.LineResponder.saved c.args.responder.now)
    (g.D.LineResponder.saved c.loop-line.responder) c.loop-line-test.false c.loop-line.invariant.ran
