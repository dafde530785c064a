use Rattle.std.proofs.Common.{◌∙◌, subst, sym, ap}
use Rattle.core_laws.specs.places.Names.{key_child, IsName, HasNames}
use Rattle.one_store.specs.entries.Words.{key_in, child_bits}
use Rattle.one_store.specs.Known.{Known}
use Rattle.one_store.proofs.TraitLaws.{reaches, reached_names, store_leaf, store_trees}
use Rattle.one_store.proofs.traits.OneStoreBlocks.leaves_at.Goals as goal

pub leaves-requires-clause-name : goal.leaves-requires-clause-name
leaves-requires-clause-name c =
    subst (λ (v : Known). IsName v.words.plan c.args.n) (sym c.self.view_is)
    (reaches c.args.self.now _ c.args.n c.number-number.ensures.store c.requires.reached).name

pub leaves-requires-clause-names : goal.leaves-requires-clause-names
leaves-requires-clause-names c =
    subst (λ (v : Known). HasNames v.words.plan (key_in v.words c.args.n)) (sym c.self.view_is)
    (reached_names c.args.self.now _ c.args.n c.number-number.ensures.store c.requires.reached)

pub returns-clause-leaves : goal.returns-clause-leaves
returns-clause-leaves c t r e = record {
  each = λ k lt. c.leaves.ensures k lt
      ∙ ap (λ (v : Known). child_bits v.words (key_child (key_in v.words c.args.n) k))
      c.self.view_is
      ∙ store_leaf c.args.self.now _ t c.args.n k c.number-number.ensures.store c.requires.level lt
      r e;
}

pub returns-clause-trees : goal.returns-clause-trees
returns-clause-trees c = store_trees c.args.self.now _ c.number-number.ensures.store
