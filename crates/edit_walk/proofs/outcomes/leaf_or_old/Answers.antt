use Rattle.std.proofs.Common.{refl, sym, ◌∙◌, subst}
use Rattle.node_words.specs.Held.{StoreState, OnlyMeets}
use Rattle.node_words.specs.contents.CellShapes.{leaf_shape}
use Rattle.edit_walk.specs.blocks.Blocks.{MadeLeaf}
use Rattle.edit_walk.proofs.outcomes.leaf_or_old.Goals as goal

pub returns-then-was-bits-clause-found : goal.returns-then-was-bits-clause-found
returns-then-was-bits-clause-found g c = record {
  is = refl;
  told = λ t b. sym (c.leaf_bits-was.ensures.bits t b) ∙ c.if-was-bits.true;
  seen = c.leaf_bits-was.ensures.seen;
}

pub returns-in-Ok-clause-found : goal.returns-in-Ok-clause-found
returns-in-Ok-clause-found g c =
    subst (λ (v : StoreState). MadeLeaf c.args.bits c.in-Ok.share v (g.N.Blocks.seen c.leaf.new.store))
    c.leaf_bits-was.ensures.seen c.in-Ok.ensures.made

pub returns-in-Err-clause-found : goal.returns-in-Err-clause-found
returns-in-Err-clause-found g c =
    subst (λ (v : StoreState). OnlyMeets v c.in-Err.e.level c.in-Err.e.bucket (leaf_shape c.args.bits)
    (g.N.Blocks.seen c.leaf.new.store)) c.leaf_bits-was.ensures.seen c.in-Err.ensures.made
