use Rattle.std.proofs.Common.{refl}
use Rattle.node_words.proofs.HeldLaws.{gains_holds}
use Rattle.tests_core.proofs.stores.calls.joined.Goals as goal

pub over-requires-clause-leaf : goal.over-requires-clause-leaf
over-requires-clause-leaf g c = gains_holds _ _ _ c.in-Ok.leaf c.in-Ok.ensures.held refl
