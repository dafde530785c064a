use Rattle.std.proofs.Common.{◌+◌, arith, refl, sym}
use Rattle.node_words.specs.Sums.{sum_below-zero}
use Rattle.node_words.specs.descent.Parts.{whole_of}
use Rattle.measure.proofs.TallyLaws.{tallied_all, tallied_fits}
use Rattle.measure.proofs.WholeLaws.{whole_ends}
use Rattle.measure.proofs.EightLeaves.{leaf_counted}
use Rattle.measure.proofs.wholes.tally_leaves.Goals as goal

pub loop-octant-init : goal.loop-octant-init
loop-octant-init g c test p = sym (sum_below-zero _)

pub overflow_add-number : goal.overflow_add-number
overflow_add-number g c =
    let test = c.requires.block.0 in
    let p = c.requires.block.1 in
    let fits =
    tallied_fits c.args.of.level c.loop-octant.octant
    (c.loop-octant.number + c.count_leaf-number.result) (whole_of c.args.of.level) test
    (omega (arith, c.requires.level)) (whole_ends c.args.of.level) c.loop-octant-test.true
    (leaf_counted g.S.Subject.counts (g.B.Blocks.seen c.args.store.now) c.args.of
    c.loop-octant.octant c.loop-octant.octant _ _ c.leaves-leaves.result c.whole_block-whole.result
    test c.requires.level c.loop-octant-test.true refl c.whole_block-whole.ensures
    c.leaves-leaves.ensures.leaves c.count_leaf-number.ensures p
    (c.loop-octant.invariant test p))
    in omega (arith, fits)

pub loop-octant-preserved : goal.loop-octant-preserved
loop-octant-preserved g c test p =
    leaf_counted g.S.Subject.counts (g.B.Blocks.seen c.args.store.now) c.args.of
    c.loop-octant.octant c.loop-octant.octant _ _ c.leaves-leaves.result c.whole_block-whole.result
    test c.requires.level c.loop-octant-test.true refl c.whole_block-whole.ensures
    c.leaves-leaves.ensures.leaves c.count_leaf-number.ensures p (c.loop-octant.invariant test p)

pub returns-clause-number : goal.returns-clause-number
returns-clause-number g c test p =
    tallied_all c.args.of.level c.loop-octant.octant _ (whole_of c.args.of.level) test
    (omega (arith, c.requires.level)) (whole_ends c.args.of.level) (omega arith)
    (c.loop-octant.invariant test p)
