use Rattle.std.proofs.Common.{subst}
use Rattle.node_words.specs.Plans.{Layout}
use Rattle.core_laws.specs.places.Names.{IsName}
use Rattle.node_table.proofs.reading.begin_of.Goals as goal

pub key_of-requires : goal.key_of-requires
key_of-requires c =
    let r = c.requires.reached in
    record {
      name = subst (λ (q : Layout). IsName q c.args.n) c.requires.of.plan
          (c.tell.ensures.names r.tree c.args.n r.reached r.root);
    }
