use Rattle.std.proofs.Common.{sym, subst}
use Rattle.node_words.specs.Held.{StoreState, name_in}
use Rattle.node_words.specs.descent.Roots.{HasBlock}
use Rattle.edit_copy.proofs.sources.leaves_in.Goals as goal

pub leaf_bits-bits-requires : goal.leaf_bits-bits-requires
leaf_bits-bits-requires g c =
    let (row, are) = c.requires.sources in
    record {
      block = subst (λ (s : StoreState). HasBlock s.held 0 (name_in c.args.sources.now c.loop-j.j))
          (sym c.loop-j.invariant.seen_is)
          (record { tree = row c.loop-j.j; is_block = are.each c.loop-j.j c.loop-j-test.true });
    }
