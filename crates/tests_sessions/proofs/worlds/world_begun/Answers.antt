use Rattle.tests_sessions.proofs.FreeLaws.{all_free}
use Rattle.tests_sessions.proofs.worlds.world_begun.Goals as goal

pub returns-in-Ok : goal.returns-in-Ok
returns-in-Ok c =
    all_free c.in-Ok.world_begun.0 c.in-Ok.world_begun.1.items c.in-Ok.ensures.sessions.are_new
    c.in-Ok.ensures.sessions.at_rest
