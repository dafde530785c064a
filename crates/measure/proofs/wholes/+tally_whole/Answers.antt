use Rattle.std.proofs.Common.{◌+◌, arith, refl, sym, ◌∙◌}
use Rattle.node_words.specs.Sums.{sum_below-zero}
use Rattle.node_words.specs.descent.Parts.{whole_of}
use Rattle.measure.proofs.TallyLaws.{none_tallied, tallied_all, tallied_fits}
use Rattle.measure.proofs.WholeLaws.{whole_ends, whole_step, whole_right_again, whole_leaf_tally}
use Rattle.measure.proofs.wholes.+tally_whole.Goals as goal

pub tally_whole-returns-then-is_nothing-clause-number : goal.tally_whole-returns-then-is_nothing-clause-number
tally_whole-returns-then-is_nothing-clause-number g t c test p =
    none_tallied c.args.of.level (whole_of c.args.of.level) test (whole_ends c.args.of.level)
    (c.if-is_nothing.ensures refl _ _ test p)

pub tally_something-returns-then-of-eq0-clause-number : goal.tally_something-returns-then-of-eq0-clause-number
tally_something-returns-then-of-eq0-clause-number g t c =
    whole_leaf_tally g.S.Subject.counts
    (g.B.Blocks.seen c.args.store.now).held c.args.of c.leaf-bits.result c.count_leaf.result _
    (omega arith) c.whole_block.ensures c.leaf-bits.ensures.bits c.count_leaf.ensures

pub tally_something-returns-in-Some-clause-rests : goal.tally_something-returns-in-Some-clause-rests
tally_something-returns-in-Some-clause-rests g t c = g.met.B.Blocks.rests_itself _

pub tally_something-returns-clause-answers : goal.tally_something-returns-clause-answers
tally_something-returns-clause-answers g t c =
    c.keep.ensures _ c.tally_whole_octants-number.ensures.answers c.tally_whole_octants-number.ensures.number

pub tally_whole_octants-loop-octant-init : goal.tally_whole_octants-loop-octant-init
tally_whole_octants-loop-octant-init g t c =
    record {
      number = λ test p. sym
          (sum_below-zero _);
      right = c.requires.answers;
      same = refl;
      rests = g.met.B.Blocks.rests_itself _;
    }

pub tally_whole_octants-overflow_add-number : goal.tally_whole_octants-overflow_add-number
tally_whole_octants-overflow_add-number g t c =
    let test = c.requires.block.0 in
    let p = c.requires.block.1 in
    let fits =
    tallied_fits c.args.of.level c.loop-octant.octant
    (c.loop-octant.number + c.tally_whole-number.result)
    (whole_of c.args.of.level) test c.requires.level.1
    (whole_ends c.args.of.level) c.loop-octant-test.true
    (whole_step g.S.Subject.counts (g.B.Blocks.seen c.args.store.now)
    (g.B.Blocks.seen c.loop-octant.store)
    (g.B.Blocks.seen c.octant-subject.new.store) c.args.of.level c.loop-octant.octant _ _ c.args.of.subject c.octant-subject.result test
    c.loop-octant.invariant.same c.octant-subject.ensures.seen c.requires.level.0 c.loop-octant-test.true c.octant-subject.ensures.octant c.tally_whole-number.ensures.number p (c.loop-octant.invariant.number test p))
    in omega (arith, fits)

pub tally_whole_octants-loop-octant-preserved : goal.tally_whole_octants-loop-octant-preserved
tally_whole_octants-loop-octant-preserved g t c = record {
  number = λ test p. whole_step g.S.Subject.counts (g.B.Blocks.seen c.args.store.now)
      (g.B.Blocks.seen c.loop-octant.store)
      (g.B.Blocks.seen c.octant-subject.new.store) c.args.of.level c.loop-octant.octant _ _ c.args.of.subject c.octant-subject.result test
      c.loop-octant.invariant.same c.octant-subject.ensures.seen c.requires.level.0 c.loop-octant-test.true c.octant-subject.ensures.octant c.tally_whole-number.ensures.number p (c.loop-octant.invariant.number test p);
  right = whole_right_again g.S.Subject.counts (g.B.Blocks.seen c.args.store.now)
      (g.B.Blocks.seen c.loop-octant.store)
      (g.B.Blocks.seen c.octant-subject.new.store) _ c.loop-octant.invariant.same c.octant-subject.ensures.seen c.tally_whole-number.ensures.answers;
  same = c.tally_whole-number.ensures.seen ∙ c.octant-subject.ensures.seen
      ∙ c.loop-octant.invariant.same;
  rests = g.met.B.Blocks.rests_on _ _ _
      (g.met.B.Blocks.rests_on _ _ _ c.loop-octant.invariant.rests c.octant-subject.ensures.rests) c.tally_whole-number.ensures.rests;
}

pub tally_whole_octants-returns-clause-number : goal.tally_whole_octants-returns-clause-number
tally_whole_octants-returns-clause-number g t c test p =
    tallied_all c.args.of.level c.loop-octant.octant _
    (whole_of c.args.of.level) test c.requires.level.0 (whole_ends c.args.of.level)
    (omega arith) (c.loop-octant.invariant.number test p)
