use Rattle.std.proofs.Common.{◌+◌, ◌≤◌, All, vec_capacity, vec_len}
use Rattle.tests_sessions.specs.Free.{IsFree}
use Rattle.tests_sessions.specs.declared.players.Player.{Player}
use Rattle.tests_sessions.proofs.players.players_of.Given as goal

abbrev pub invariant-loop-session : goal.invariant-loop-session
invariant-loop-session l = record {
  free : All (IsFree l.world) l.sessions.items;
  ready : All (λ (p : Player). IsFree p.world.now p.session) l.players.items;
  room : vec_len l.players + vec_len l.sessions ≤ vec_capacity l.players;
}

abbrev pub decreases-loop-session : goal.decreases-loop-session
decreases-loop-session l = vec_len l.sessions
