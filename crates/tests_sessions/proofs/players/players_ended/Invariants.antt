use Rattle.std.proofs.Common.{All, vec_len}
use Rattle.tests_sessions.specs.declared.players.Player.{Player}
use Rattle.tests_sessions.specs.Free.{IsFree}
use Rattle.tests_sessions.proofs.players.players_ended.Given as goal

abbrev pub invariant-loop-player : goal.invariant-loop-player
invariant-loop-player l =
    All (λ (p : Player). IsFree p.world.now p.session) l.players.items

abbrev pub decreases-loop-player : goal.decreases-loop-player
decreases-loop-player l = vec_len l.players
