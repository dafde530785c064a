use Rattle.tests_sessions.proofs.FreeLaws.{few_free, still_free}
use Rattle.tests_sessions.proofs.calls.carries_out.Goals as goal

pub returns-then-fits : goal.returns-then-fits
returns-then-fits g c =
    still_free c.args.world.now c.args.s.now c.act.new.s c.requires c.act.ensures.calls.rest
    c.act.ensures.calls.held

pub act-requires-clause-ready : goal.act-requires-clause-ready
act-requires-clause-ready g c =
    record {
      rest = c.requires.rest;
      room = few_free c.args.world.now c.args.s.now c.requires;
    }
