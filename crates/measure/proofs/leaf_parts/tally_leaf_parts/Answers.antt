use Rattle.std.proofs.Common.{◌+◌, ◌∙◌, arith, refl, sym}
use Rattle.node_words.specs.Sums.{sum_below-zero}
use Rattle.measure.proofs.TallyLaws.{octant_more, tallied_all, tallied_fits}
use Rattle.measure.proofs.leaf_parts.tally_leaf_parts.Goals as goal

pub loop-octant-init : goal.loop-octant-init
loop-octant-init g c =
    record {
      number = λ test p. sym
          (sum_below-zero _);
      same = refl;
      rests = g.met.B.Blocks.rests_itself _;
    }

pub overflow_add-number : goal.overflow_add-number
overflow_add-number g c =
    let test = c.requires.block.0 in
    let p = c.requires.block.1 in
    let fits =
    tallied_fits c.args.of.now.level c.loop-octant.octant
    (c.loop-octant.number + c.count_within-number.result) c.args.of.now.part test
    (omega (arith, c.requires.level)) c.requires.part c.loop-octant-test.true
    (octant_more g.S.Subject.counts (g.B.Blocks.seen c.args.store.now)
    (g.B.Blocks.seen c.loop-octant.store) c.args.of.now c.loop-octant.octant c.loop-octant.number c.count_within-number.result test
    c.loop-octant.invariant.same c.count_within-number.ensures.number p
    (c.loop-octant.invariant.number test p))
    in omega (arith, fits)

pub loop-octant-preserved : goal.loop-octant-preserved
loop-octant-preserved g c = record {
  number = λ test p. octant_more g.S.Subject.counts (g.B.Blocks.seen c.args.store.now)
      (g.B.Blocks.seen c.loop-octant.store) c.args.of.now c.loop-octant.octant c.loop-octant.number c.count_within-number.result test
      c.loop-octant.invariant.same c.count_within-number.ensures.number p
      (c.loop-octant.invariant.number test p);
  same = c.count_within-number.ensures.seen ∙ c.loop-octant.invariant.same;
  rests = g.met.B.Blocks.rests_on _ _ _ c.loop-octant.invariant.rests c.count_within-number.ensures.rests;
}

pub returns-clause-number : goal.returns-clause-number
returns-clause-number g c test p =
    tallied_all c.args.of.now.level c.loop-octant.octant _ c.args.of.now.part test
    (omega (arith, c.requires.level)) c.requires.part (omega arith)
    (c.loop-octant.invariant.number test p)
