use Rattle.node_words.proofs.GatherLaws.{grows_none}
use Rattle.node_words.proofs.OfContents.LeafBits.{leaf_shape-none}
use Rattle.edit_walk.proofs.OfBlocks.AsideLaws.{came_none, leaf_came, leaf_grows}
use Rattle.edit_walk.proofs.blocks.blocks.leaf.Goals as goal

pub returns-then-bits-eq0-clause-made : goal.returns-then-bits-eq0-clause-made
returns-then-bits-eq0-clause-made g c = record {
  came = λ rest full a.
      came_none _ rest full 0 _ a (leaf_shape-none c.args.bits c.if-bits-eq0.true);
  grows = grows_none _ _;
}

pub returns-in-Ok-clause-made : goal.returns-in-Ok-clause-made
returns-in-Ok-clause-made g c = record {
  came = λ rest full a.
      leaf_came _ _ rest full c.args.bits c.in-Ok.share c.if-bits-eq0.false c.in-Ok.ensures.level c.in-Ok.ensures.held a;
  grows = leaf_grows c.args.bits _ _ c.if-bits-eq0.false c.in-Ok.ensures.grants;
}
