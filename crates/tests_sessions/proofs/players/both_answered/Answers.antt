use Rattle.tests_sessions.specs.declared.players.Player.{Player}
use Rattle.tests_sessions.specs.Free.{IsFree}
use Rattle.tests_sessions.proofs.PlayLaws.{all_after}
use Rattle.tests_sessions.proofs.players.both_answered.Goals as goal

pub players_ended-requires : goal.players_ended-requires
players_ended-requires g c =
    all_after (λ (p : Player). IsFree p.world.now p.session) c.in-Some.players.items
    c.all_ran-players.result.items c.all_ran-players.ensures.ran
