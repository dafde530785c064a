use Rattle.tests_sessions.proofs.FreeLaws.{few_free, still_free}
use Rattle.tests_sessions.proofs.calls.forgets.Goals as goal

pub returns : goal.returns
returns g c =
    still_free c.args.world.now c.args.s.now c.forget.new.s c.requires c.forget.ensures.calls.rest
    c.forget.ensures.calls.held

pub forget-requires : goal.forget-requires
forget-requires g c =
    record {
      ready = record {
        rest = c.requires.rest;
        room = few_free c.args.world.now c.args.s.now c.requires;
      };
    }
