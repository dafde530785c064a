use Rattle.std.proofs.Common.{◌+◌, ◌<◌, All, vec_capacity, vec_len}
use Rattle.tests_sessions.specs.Free.{IsFree}
use Rattle.tests_sessions.proofs.endings.with_one_more.Given as goal

abbrev pub invariant-loop-session : goal.invariant-loop-session
invariant-loop-session l = record {
  sessions : All (IsFree l.world) l.sessions.items;
  more : All (IsFree l.world) l.more.items;
  room : vec_len l.more + vec_len l.sessions < vec_capacity l.more;
}

abbrev pub decreases-loop-session : goal.decreases-loop-session
decreases-loop-session l = vec_len l.sessions
