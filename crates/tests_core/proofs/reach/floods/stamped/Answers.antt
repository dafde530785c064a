use Rattle.std.proofs.Common.{refl}
use Rattle.one_store.specs.Known.{known_state}
use Rattle.tests_core.proofs.OfReach.Roots.{made_held}
use Rattle.tests_core.proofs.reach.floods.stamped.Goals as goal

pub found_in-found-requires-clause-root : goal.found_in-found-requires-clause-root
found_in-found-requires-clause-root g c =
    made_held (known_state c.args.store.now)
    (known_state c.rebuild_stamp.new.store) c.args.side _ _ _ _ refl c.as_ref.ensures.value
    (λ before w. (c.in-Ok.ensures.made before w).came)
