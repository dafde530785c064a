use Rattle.conformance.proofs.OfSessions.Going.{begins, are_earlier, goes_on, ends}
use Rattle.conformance.proofs.sessions.laws.sessions_go_on.Goals as goal

pub returns : goal.returns
returns c = record {
  begin = λ of. begins of.keep of.tint of.plan of.models of.number;
  earlier = λ of. are_earlier of.keep of.tint of.plan of.models of.number;
  line = λ of. goes_on of.keep of.tint of.plan of.models of.number;
  end = λ of. ends of.keep of.tint of.plan of.models of.number;
}
