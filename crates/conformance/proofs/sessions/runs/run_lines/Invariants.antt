use Rattle.std.proofs.Common.{◌≡◌, ◌+◌, ◌≤◌, take, vec_len, vec_capacity}
use Rattle.conformance.proofs.OfSessions.Looping.{LinesRan}
use Rattle.conformance.specs.sessions.Saves.{saves_asked_in}
use Rattle.conformance.proofs.sessions.runs.run_lines.Given as goal

abbrev pub invariant-loop-line : goal.invariant-loop-line
invariant-loop-line g l = record {
  of : g.D.LineResponder.of l.responder ≡ g.D.LineResponder.of l.fn.responder;
  ran : LinesRan (g.D.LineResponder.of l.fn.responder)
      (take l.line-index l.lines) l.fn.answers.items l.answers.items
      (g.D.LineResponder.seen l.fn.responder) (g.D.LineResponder.seen l.responder)
      (g.D.LineResponder.saved l.fn.responder) (g.D.LineResponder.saved l.responder);
  len : vec_len l.answers ≡ vec_len l.fn.answers + l.line-index;
  capacity : vec_capacity l.answers ≡ vec_capacity l.fn.answers;
  saves : saves_asked_in l.lines ≤ g.D.LineResponder.room l.responder + saves_asked_in
      (take l.line-index l.lines);
  stands : g.D.LineResponder.stands l.responder;
  rests : g.D.LineResponder.rests l.fn.responder l.responder;
}
