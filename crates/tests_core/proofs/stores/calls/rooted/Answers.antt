use Rattle.std.proofs.Common.{refl, subst}
use Rattle.std.proofs.lemmas.Option.{same_Some}
use Rattle.node_words.specs.declared.shapes.names.Name.{Name}
use Rattle.node_words.specs.Held.{HoldsName}
use Rattle.node_words.proofs.HeldLaws.{gains_holds}
use Rattle.tests_core.proofs.stores.calls.rooted.Goals as goal

pub keep_root-requires-clause-held : goal.keep_root-requires-clause-held
keep_root-requires-clause-held g c x e =
    subst (λ (n : Name). HoldsName c.leaf.new.self.told.held n) (same_Some c.in-Ok.share x e)
    (gains_holds _ _ _ c.in-Ok.share c.in-Ok.ensures.held refl)
