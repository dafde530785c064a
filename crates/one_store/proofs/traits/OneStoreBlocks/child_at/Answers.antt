use Rattle.std.proofs.Common.{◌∙◌, subst, sym, ap}
use Rattle.core_laws.specs.places.Names.{key_child, IsName, HasNames}
use Rattle.one_store.specs.entries.Words.{key_in}
use Rattle.one_store.specs.Known.{Known}
use Rattle.one_store.proofs.TraitLaws.{reaches, reached_names, store_child, store_trees}
use Rattle.one_store.proofs.traits.OneStoreBlocks.child_at.Goals as goal

pub child-requires-clause-name : goal.child-requires-clause-name
child-requires-clause-name c =
    subst (λ (v : Known). IsName v.words.plan c.args.n) (sym c.self.view_is)
    (reaches c.args.self.now _ c.args.n c.number-number.ensures.store c.requires.reached).name

pub child-requires-clause-names : goal.child-requires-clause-names
child-requires-clause-names c =
    subst (λ (v : Known). HasNames v.words.plan (key_in v.words c.args.n)) (sym c.self.view_is)
    (reached_names c.args.self.now _ c.args.n c.number-number.ensures.store c.requires.reached)

pub returns-clause-child : goal.returns-clause-child
returns-clause-child c t r e =
    c.child.ensures
    ∙ ap (λ (v : Known). key_child (key_in v.words c.args.n) c.args.octant) c.self.view_is
    ∙ store_child c.args.self.now _ t c.args.n c.args.octant c.number-number.ensures.store c.requires.level c.requires.octant r e

pub returns-clause-trees : goal.returns-clause-trees
returns-clause-trees c = store_trees c.args.self.now _ c.number-number.ensures.store
