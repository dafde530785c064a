use Rattle.std.proofs.Common.{◌∙◌, subst, sym, ap}
use Rattle.core_laws.specs.places.Names.{key_bits, IsName}
use Rattle.one_store.specs.entries.Words.{key_in}
use Rattle.one_store.specs.Known.{Known}
use Rattle.one_store.proofs.TraitLaws.{reaches, store_bits, store_trees}
use Rattle.one_store.proofs.traits.OneStoreBlocks.bits_at.Goals as goal

pub bits-requires-clause-name : goal.bits-requires-clause-name
bits-requires-clause-name c =
    subst (λ (v : Known). IsName v.words.plan c.args.n) (sym c.self.view_is)
    (reaches c.args.self.now _ c.args.n c.number-number.ensures.store c.requires.reached).name

pub returns-clause-bits : goal.returns-clause-bits
returns-clause-bits c t r e =
    c.bits.ensures ∙ ap (λ (v : Known). key_bits (key_in v.words c.args.n)) c.self.view_is
    ∙ store_bits c.args.self.now _ t c.args.n c.number-number.ensures.store c.requires.level r e

pub returns-clause-trees : goal.returns-clause-trees
returns-clause-trees c = store_trees c.args.self.now _ c.number-number.ensures.store
