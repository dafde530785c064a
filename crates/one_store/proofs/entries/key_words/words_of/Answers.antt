use Rattle.std.proofs.Common.{◌∙◌, sym, subst}
use Rattle.node_words.specs.declared.keys.Key.{Key}
use Rattle.core_laws.specs.places.KeyWords.{IsKeyAt}
use Rattle.one_store.proofs.OfEntries.WordLaws.{node_words}
use Rattle.one_store.proofs.entries.key_words.words_of.Goals as goal

pub returns-in-Node : goal.returns-in-Node
returns-in-Node c =
    let h = subst (λ (k : Key). IsKeyAt c.args.level k) c.in-Node.is c.requires in
    node_words c.args.level 0 c.pair.result c.pair-in-Node.result c.pair-in-Node-2.result c.pair-in-Node-3.result c.in-Node.children h c.pair.ensures c.pair-in-Node.ensures c.pair-in-Node-2.ensures c.pair-in-Node-3.ensures
    ∙ sym c.in-Node.is
