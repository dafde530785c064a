use Rattle.std.proofs.Common.{refl}
use Rattle.one_store.specs.Known.{known_state}
use Rattle.tests_core.proofs.OfStores.Roots.{made_held}
use Rattle.tests_core.proofs.stores.clipped.counted.Goals as goal

pub count-cells-requires-clause-root : goal.count-cells-requires-clause-root
count-cells-requires-clause-root g c =
    made_held (known_state c.args.store.now)
    (known_state c.rebuild_ball_in.new.store) c.args.side _ _ _ _ refl c.as_ref.ensures.value
    (λ before w. (c.in-Ok.ensures.made before w).came)
