use Rattle.std.proofs.Common.{◌∙◌, subst}
use Rattle.node_words.specs.declared.keys.Key as keys
use Rattle.node_table.specs.Finding.{AreWordsOf}
use Rattle.node_table.proofs.BookLaws.{sought_tag}
use Rattle.node_table.proofs.sought.sought_of.Goals as goal

pub returns-clause-sought : goal.returns-clause-sought
returns-clause-sought c =
    let words = c.key.inside.words in
    let are = subst (λ (k : keys.Key). AreWordsOf k words) c.key.view_is c.key.invariant in record {
      words = are;
      tag = c.tag_of-tag.ensures.tag ∙ sought_tag c.args.level c.args.key.now words are;
    }
