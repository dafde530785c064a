use Rattle.std.proofs.Common.{refl}
use Rattle.one_store.specs.Known.{known_state}
use Rattle.tests_core.proofs.OfStores.Roots.{made_held}
use Rattle.tests_core.proofs.stores.worlds.filled.Goals as goal

pub two_versions-requires-clause-root : goal.two_versions-requires-clause-root
two_versions-requires-clause-root g c =
    made_held (known_state c.args.store.now)
    (known_state c.rebuild_box.new.store) c.args.side _ _ _ _ refl refl
    (λ before w. (c.in-Ok-rebuild_box.ensures.made before w).came)
