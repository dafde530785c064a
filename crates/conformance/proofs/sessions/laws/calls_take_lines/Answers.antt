use Rattle.conformance.proofs.OfSessions.Arms.{accepted_arm, full_arm, stale_arm, refused_arm, forgot_arm, resting_arm, found_readable, marked_forgotten, found_way}
use Rattle.conformance.proofs.sessions.laws.calls_take_lines.Goals as goal

pub returns : goal.returns
returns c = record {
  accepted = λ of. accepted_arm of.keep of.tint of.plan of.models of.number;
  full = λ of. full_arm of.keep of.tint of.plan of.models of.number;
  stale = λ of. stale_arm of.keep of.tint of.plan of.models of.number;
  refused = λ of. refused_arm of.keep of.tint of.plan of.models of.number;
  forgot = λ of. forgot_arm of.keep of.tint of.plan of.models of.number;
  rests = λ of. resting_arm of.keep of.tint of.plan of.models of.number;
  readable = found_readable;
  forgotten = marked_forgotten;
  ways = found_way;
}
