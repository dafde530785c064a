use Rattle.tests_sessions.proofs.FreeLaws.{few_free, pinned_few, unpinned_free}
use Rattle.tests_sessions.proofs.pins.outlives.Goals as goal

pub returns-in-Ok-clause-second : goal.returns-in-Ok-clause-second
returns-in-Ok-clause-second g c =
    unpinned_free c.args.world.now c.args.b.now c.pin.new.s c.is_kept-kept.new.s c.unpin.new.s
    c.in-Ok.pinned.root c.requires.second c.in-Ok.ensures.came.gains c.is_kept-kept.ensures.held
    c.unpin.ensures.gone c.unpin.ensures.back.rest

pub pin-requires : goal.pin-requires
pin-requires g c =
    record {
      ready = record {
        rest = c.requires.second.rest;
        room = few_free c.args.world.now c.args.b.now c.requires.second;
      };
    }

pub unpin-requires-clause-ready : goal.unpin-requires-clause-ready
unpin-requires-clause-ready g c =
    record {
      rest = c.is_kept-kept.ensures.rest;
      room = pinned_few c.args.world.now c.args.b.now c.pin.new.s c.is_kept-kept.new.s c.in-Ok.pinned.root
          c.requires.second c.in-Ok.ensures.came.gains c.is_kept-kept.ensures.held;
    }
