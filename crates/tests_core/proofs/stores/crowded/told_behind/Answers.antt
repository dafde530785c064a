use Rattle.std.proofs.Common.{refl, sym}
use Rattle.one_store.specs.Known.{known_state}
use Rattle.tests_core.proofs.OfStores.Roots.{made_held}
use Rattle.tests_core.proofs.stores.crowded.told_behind.Goals as goal

pub told_over-requires-clause-root : goal.told_over-requires-clause-root
told_over-requires-clause-root g c =
    made_held (known_state c.args.store.now)
    (known_state c.rebuild_box.new.store) c.args.side _ _ _ _ refl (sym c.in-Ok-Some.field-0-is)
    (λ before w. (c.in-Ok-Some.ensures.made before w).came)
