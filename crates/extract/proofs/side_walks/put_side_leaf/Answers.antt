use Rattle.std.proofs.Common.{subst}
use Rattle.vw_cell.specs.declared.blocks.Block.{Block}
use Rattle.extract.specs.Filling.{Fills}
use Rattle.extract.specs.Sides.{leaf_towards, words_towards}
use Rattle.extract.proofs.FillLaws.{LiesAmong, misses_fills, not_both, octant_corner}
use Rattle.extract.proofs.NearLaws.{leaf_octant_fills}
use Rattle.extract.proofs.side_walks.put_side_leaf.Goals as goal

pub returns-then-not-meets : goal.returns-then-not-meets
returns-then-not-meets c = record {
  fills = λ held s are d cells test p shows.
      let corner =
      octant_corner c.args.place c.child-inner.result c.args.octant c.requires.octant
      c.child-inner.ensures c.requires.corner in
      subst (λ (q : Block). Fills (LiesAmong c.args.b c.args.layer q) c.args.b c.args.layer cells
      (words_towards c.args.words.now d) (words_towards c.args.words.now d)) c.child-inner.ensures
      (misses_fills c.child-inner.result c.args.b c.args.layer cells
      (words_towards c.args.words.now d) c.requires.b corner
      (λ m. not_both c.meets.result c.if-not-meets.true (c.meets.ensures.1 m)));
}

pub returns : goal.returns
returns c = record {
  fills = λ held s are d.
      leaf_octant_fills held s c.args.place c.child-inner.result c.args.octant c.args.b
      c.args.layer c.number_at-m.result d (leaf_towards c.leaf-leaf.result d)
      (words_towards c.args.words.now d) (words_towards c.put.new.self d) c.requires.level
      c.requires.octant c.child-inner.ensures c.requires.b (c.put.ensures.places d)
      c.number_at-m.ensures.corner (c.put.ensures.put d) (c.leaf-leaf.ensures held s are d);
}
