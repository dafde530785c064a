use Rattle.std.proofs.Common.{All, vec_len}
use Rattle.tests_sessions.specs.Free.{IsFree}
use Rattle.tests_sessions.proofs.rows.rows_answered.Given as goal

abbrev pub invariant-loop-session : goal.invariant-loop-session
invariant-loop-session g l = All (IsFree l.world) l.sessions.items

abbrev pub decreases-loop-session : goal.decreases-loop-session
decreases-loop-session g l = vec_len l.sessions
