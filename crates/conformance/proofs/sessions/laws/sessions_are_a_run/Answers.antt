use Rattle.conformance.proofs.OfSessions.Closing.{are_a_run, seen_stays}
use Rattle.conformance.proofs.sessions.laws.sessions_are_a_run.Goals as goal

pub returns : goal.returns
returns c = record { run = are_a_run; worlds = seen_stays }
