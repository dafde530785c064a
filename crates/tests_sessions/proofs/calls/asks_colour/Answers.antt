use Rattle.tests_sessions.proofs.FreeLaws.{few_free, still_free}
use Rattle.tests_sessions.proofs.calls.asks_colour.Goals as goal

pub returns-in-Ok : goal.returns-in-Ok
returns-in-Ok g c =
    still_free c.args.world.now c.args.s.now c.ask_version.new.s c.requires
    c.ask_version.ensures.calls.rest c.ask_version.ensures.calls.held

pub returns-in-Err : goal.returns-in-Err
returns-in-Err g c =
    still_free c.args.world.now c.args.s.now c.ask_version.new.s c.requires
    c.ask_version.ensures.calls.rest c.ask_version.ensures.calls.held

pub ask_version-requires-clause-ready : goal.ask_version-requires-clause-ready
ask_version-requires-clause-ready g c =
    record {
      rest = c.requires.rest;
      room = few_free c.args.world.now c.args.s.now c.requires;
    }
