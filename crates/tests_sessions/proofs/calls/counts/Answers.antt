use Rattle.tests_sessions.proofs.FreeLaws.{few_free, pinned_few, unpinned_free}
use Rattle.tests_sessions.proofs.calls.counts.Goals as goal

pub returns-in-Ok : goal.returns-in-Ok
returns-in-Ok g c =
    record {
      free = unpinned_free c.args.world.now c.args.s.now c.pin.new.s c.counts_pinned-least.new.s
          c.unpin.new.s c.in-Ok.pinned.root c.requires.free c.in-Ok.ensures.came.gains
          c.counts_pinned-least.ensures.held c.unpin.ensures.gone c.unpin.ensures.back.rest;
    }

pub pin-requires : goal.pin-requires
pin-requires g c =
    record {
      ready = record {
        rest = c.requires.free.rest;
        room = few_free c.args.world.now c.args.s.now c.requires.free;
      };
    }

pub unpin-requires-clause-ready : goal.unpin-requires-clause-ready
unpin-requires-clause-ready g c =
    record {
      rest = c.counts_pinned-least.ensures.rest;
      room = pinned_few c.args.world.now c.args.s.now c.pin.new.s c.counts_pinned-least.new.s
          c.in-Ok.pinned.root c.requires.free c.in-Ok.ensures.came.gains
          c.counts_pinned-least.ensures.held;
    }
