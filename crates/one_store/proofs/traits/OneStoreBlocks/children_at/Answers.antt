use Rattle.std.proofs.Common.{◌∙◌, subst, sym, ap}
use Rattle.node_words.specs.declared.keys.Key.{Key}
use Rattle.core_laws.specs.places.Names.{key_child, IsName, HasNames}
use Rattle.one_store.specs.entries.Words.{key_in}
use Rattle.one_store.specs.Known.{Known}
use Rattle.one_store.proofs.TraitLaws.{reaches, reached_names, store_child, store_trees}
use Rattle.one_store.proofs.traits.OneStoreBlocks.children_at.Goals as goal

pub children-requires-clause-name : goal.children-requires-clause-name
children-requires-clause-name c =
    subst (λ (v : Known). IsName v.words.plan c.args.n) (sym c.self.view_is)
    (reaches c.args.self.now _ c.args.n c.number-number.ensures.store c.requires.reached).name

pub children-requires-clause-names : goal.children-requires-clause-names
children-requires-clause-names c =
    subst (λ (v : Known). HasNames v.words.plan (key_in v.words c.args.n)) (sym c.self.view_is)
    (reached_names c.args.self.now _ c.args.n c.number-number.ensures.store c.requires.reached)

pub returns-clause-children : goal.returns-clause-children
returns-clause-children c t r e = record {
  each = λ k lt. ap (λ (x : Key). key_child x k) c.children.ensures
      ∙ ap (λ (v : Known). key_child (key_in v.words c.args.n) k) c.self.view_is
      ∙ store_child c.args.self.now _ t c.args.n k c.number-number.ensures.store c.requires.level lt
      r e;
}

pub returns-clause-trees : goal.returns-clause-trees
returns-clause-trees c = store_trees c.args.self.now _ c.number-number.ensures.store
