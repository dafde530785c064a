use Rattle.tests_sessions.proofs.FreeLaws.{last_free, rest_free}
use Rattle.tests_sessions.proofs.endings.ends.Goals as goal

pub answered-heard-requires : goal.answered-heard-requires
answered-heard-requires g c =
    last_free c.args.world c.args.sessions.items c.pop.new.self.items c.in-Some.one
    c.in-Some.ensures.items c.requires

pub closed_late-requires-clause-sessions : goal.closed_late-requires-clause-sessions
closed_late-requires-clause-sessions g c =
    rest_free c.args.world c.args.sessions.items c.pop.new.self.items c.in-Some.one
    c.in-Some.ensures.items c.requires
