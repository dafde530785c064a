use Rattle.tests_sessions.proofs.FreeLaws.{few_free, still_free}
use Rattle.tests_sessions.proofs.calls.fills_once.Goals as goal

pub returns-then-fits : goal.returns-then-fits
returns-then-fits g c =
    still_free c.args.world.now c.args.s.now c.act_once.new.s c.requires c.act_once.ensures.calls.rest
    c.act_once.ensures.calls.held

pub act_once-requires-clause-ready : goal.act_once-requires-clause-ready
act_once-requires-clause-ready g c =
    record {
      rest = c.requires.rest;
      room = few_free c.args.world.now c.args.s.now c.requires;
    }
