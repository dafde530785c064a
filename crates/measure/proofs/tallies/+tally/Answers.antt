use Rattle.std.proofs.Common.{◌+◌, ◌-◌, arith, refl, rules, subst, sym, ◌∙◌}
use Rattle.vw_cell.specs.Places.{block_side}
use Rattle.node_words.specs.Held.{StoreState}
use Rattle.node_words.specs.Sums.{sum_below-zero}
use Rattle.measure.proofs.TallyLaws.{none_tallied, empty_tallied, empty_octant, octant_tallied, octant_counts, octant_ends, octant_part, octant_more, tallied_all, tallied_fits}
use Rattle.measure.proofs.WholeLaws.{whole_right_before, part_of_whole, tally_before, right_before, leaf_tally}
use Rattle.measure.proofs.tallies.+tally.Goals as goal

pub tally-returns-then-is_nothing-clause-number : goal.tally-returns-then-is_nothing-clause-number
tally-returns-then-is_nothing-clause-number g t c test p =
    none_tallied c.args.of.now.level c.args.of.now.part test c.requires.part
    (c.if-is_nothing.ensures refl _ _ test p)

pub tally-returns-then-is_empty-clause-number : goal.tally-returns-then-is_empty-clause-number
tally-returns-then-is_empty-clause-number g t c test p =
    empty_tallied c.args.of.now.part test (c.if-is_empty.ensures.0 refl)

pub tally_some-returns-then-of-eq0-clause-number : goal.tally_some-returns-then-of-eq0-clause-number
tally_some-returns-then-of-eq0-clause-number g t c =
    leaf_tally g.S.Subject.counts
    (g.B.Blocks.seen c.args.store.now).held c.args.of.now c.leaf-bits.result c.count_leaf.result
    (omega arith) c.leaf-bits.ensures.bits c.count_leaf.ensures

pub tally_some-returns-then-same_boxes-clause-number : goal.tally_some-returns-then-same_boxes-clause-number
tally_some-returns-then-same_boxes-clause-number g t c =
    part_of_whole g.S.Subject.counts
    (g.B.Blocks.seen c.args.store.now).held c.args.of.now.level c.tally_whole.result c.args.of.now.subject c.args.of.now.part _ (c.if-same_boxes.ensures.0 refl ∙ c.whole_block.ensures) c.block_of.ensures c.tally_whole.ensures.number

pub tally_some-returns-in-Some-clause-rests : goal.tally_some-returns-in-Some-clause-rests
tally_some-returns-in-Some-clause-rests g t c = g.met.B.Blocks.rests_itself _

pub tally_some-returns-then-has_none-clause-number : goal.tally_some-returns-then-has_none-clause-number
tally_some-returns-then-has_none-clause-number g t c = c.if-has_none.ensures.none refl

pub tally_some-returns-clause-number : goal.tally_some-returns-clause-number
tally_some-returns-clause-number g t c =
    tally_before g.S.Subject.counts (g.B.Blocks.seen c.args.store.now)
    (g.B.Blocks.seen c.has_none.new.store) c.args.of.now c.tally_octants-number.result c.has_none.ensures.seen c.tally_octants-number.ensures.number

pub tally_some-returns-clause-answers : goal.tally_some-returns-clause-answers
tally_some-returns-clause-answers g t c =
    c.keep.ensures _
    (right_before g.S.Subject.counts (g.B.Blocks.seen c.args.store.now)
    (g.B.Blocks.seen c.has_none.new.store) _ c.has_none.ensures.seen c.tally_octants-number.ensures.answers)
    (tally_before g.S.Subject.counts (g.B.Blocks.seen c.args.store.now)
    (g.B.Blocks.seen c.has_none.new.store) c.args.of.now c.tally_octants-number.result c.has_none.ensures.seen c.tally_octants-number.ensures.number)

pub tally_some-returns-clause-rests : goal.tally_some-returns-clause-rests
tally_some-returns-clause-rests g t c =
    g.met.B.Blocks.rests_on _ _ _ c.has_none.ensures.rests c.tally_octants-number.ensures.rests

pub tally_octants-loop-octant-init : goal.tally_octants-loop-octant-init
tally_octants-loop-octant-init g t c =
    record {
      number = λ test p. sym
          (sum_below-zero _);
      right = c.requires.answers;
      wholes = c.requires.wholes;
      same = refl;
      rests = g.met.B.Blocks.rests_itself _;
    }

pub tally_octants-overflow_add-number : goal.tally_octants-overflow_add-number
tally_octants-overflow_add-number g t c =
    let test = c.requires.block.0 in
    let p = c.requires.block.1 in
    let fits =
    tallied_fits c.args.of.now.level c.loop-octant.octant
    (c.loop-octant.number + c.tally_octant-number.result) c.args.of.now.part test c.requires.level.1 c.requires.part c.loop-octant-test.true
    (octant_more g.S.Subject.counts (g.B.Blocks.seen c.args.store.now)
    (g.B.Blocks.seen c.loop-octant.store) c.args.of.now c.loop-octant.octant c.loop-octant.number c.tally_octant-number.result test
    c.loop-octant.invariant.same c.tally_octant-number.ensures.number p
    (c.loop-octant.invariant.number test p))
    in omega (arith, fits)

pub tally_octants-loop-octant-preserved : goal.tally_octants-loop-octant-preserved
tally_octants-loop-octant-preserved g t c = record {
  number = λ test p. octant_more g.S.Subject.counts (g.B.Blocks.seen c.args.store.now)
      (g.B.Blocks.seen c.loop-octant.store) c.args.of.now c.loop-octant.octant c.loop-octant.number c.tally_octant-number.result test
      c.loop-octant.invariant.same c.tally_octant-number.ensures.number p
      (c.loop-octant.invariant.number test p);
  right = right_before g.S.Subject.counts (g.B.Blocks.seen c.args.store.now)
      (g.B.Blocks.seen c.loop-octant.store) _ c.loop-octant.invariant.same c.tally_octant-number.ensures.answers;
  wholes = whole_right_before g.S.Subject.counts (g.B.Blocks.seen c.args.store.now)
      (g.B.Blocks.seen c.loop-octant.store) _ c.loop-octant.invariant.same c.tally_octant-number.ensures.wholes;
  same = c.tally_octant-number.ensures.seen ∙ c.loop-octant.invariant.same;
  rests = g.met.B.Blocks.rests_on _ _ _ c.loop-octant.invariant.rests c.tally_octant-number.ensures.rests;
}

pub tally_octants-returns-clause-number : goal.tally_octants-returns-clause-number
tally_octants-returns-clause-number g t c test p =
    tallied_all c.args.of.now.level c.loop-octant.octant _ c.args.of.now.part test c.requires.level.0 c.requires.part (omega arith) (c.loop-octant.invariant.number test p)

pub tally_octants-tally_octant-number-requires : goal.tally_octants-tally_octant-number-requires
tally_octants-tally_octant-number-requires g t c κs within =
    let seen = g.B.Blocks.seen in
    let same = c.loop-octant.invariant.same in
    let half = c.half_side-half in
    let level = c.args.of.now.level in
    let is =
    octant_part (block_side
    (level - 1)) half.result c.loop-octant.octant c.args.of.now.part c.either_part-part.result half.ensures.half (c.either_part-part.ensures half.result c.args.of.now.part c.part_of-low.ensures.part c.part_of-high.ensures.part) in (
      omega (arith, c.decreases),
      (
        within.0,
        (
          within.1,
          (
            (search rules),
            (
              (search rules),
              (
                c.requires.level,
                (
                  c.loop-octant-test.true,
                  (
                    (
                      c.requires.block.0,
                      subst
                          (λ (s : StoreState). g.S.Subject.counts s.held level c.args.of.now.subject c.requires.block.0) (sym same) c.requires.block.1,
                    ),
                    (
                      is,
                      (
                        octant_ends (block_side
                            (level - 1)) c.loop-octant.octant c.args.of.now.part c.either_part-part.result is,
                        (
                          right_before g.S.Subject.counts (seen c.loop-octant.store)
                              (seen c.args.store.now) _
                              (sym same) c.loop-octant.invariant.right,
                          whole_right_before g.S.Subject.counts (seen c.loop-octant.store) (seen c.args.store.now) _ (sym same) c.loop-octant.invariant.wholes,
                        ),
                      ),
                    ),
                  ),
                ),
              ),
            ),
          ),
        ),
      ),
    )

pub tally_octant-returns-then-is_empty-clause-number : goal.tally_octant-returns-then-is_empty-clause-number
tally_octant-returns-then-is_empty-clause-number g t c =
    empty_octant g.S.Subject.counts (g.B.Blocks.seen c.args.store.now).held c.args.of.now
    (block_side (c.args.of.now.level - 1)) c.args.octant c.args.part refl c.requires.part
    (c.if-is_empty.ensures.0 refl)

pub tally_octant-tally-requires : goal.tally_octant-tally-requires
tally_octant-tally-requires g t c κs within =
    let seen = g.B.Blocks.seen in
    let same = c.octant-subject.ensures.seen in (
      omega (arith, c.decreases, c.requires.level.0),
      (
        within.0,
        (
          within.1,
          (
            (search rules),
            (
              (search rules),
              (
                omega (arith, c.requires.level.1),
                (
                  octant_counts g.S.Subject.counts (seen c.args.store.now)
                      (seen c.octant-subject.new.store) c.args.of.now.level c.args.octant c.args.of.now.subject c.octant-subject.result c.requires.block.0 same c.octant-subject.ensures.octant c.requires.block.1,
                  (
                    c.requires.ends,
                    (
                      right_before g.S.Subject.counts (seen c.octant-subject.new.store)
                          (seen c.args.store.now) _
                          (sym same) c.requires.answers,
                      whole_right_before g.S.Subject.counts
                          (seen c.octant-subject.new.store) (seen c.args.store.now) _
                          (sym same) c.requires.wholes,
                    ),
                  ),
                ),
              ),
            ),
          ),
        ),
      ),
    )

pub tally_octant-returns-clause-number : goal.tally_octant-returns-clause-number
tally_octant-returns-clause-number g t c =
    octant_tallied g.S.Subject.counts (g.B.Blocks.seen c.args.store.now)
    (g.B.Blocks.seen c.octant-subject.new.store) c.args.of.now
    (block_side (c.args.of.now.level - 1)) c.args.octant c.tally.result c.octant-subject.result c.args.part
    c.octant-subject.ensures.seen refl c.requires.part c.octant-subject.ensures.octant c.tally.ensures.number

pub tally_octant-returns-clause-answers : goal.tally_octant-returns-clause-answers
tally_octant-returns-clause-answers g t c =
    right_before g.S.Subject.counts (g.B.Blocks.seen c.args.store.now)
    (g.B.Blocks.seen c.octant-subject.new.store) _ c.octant-subject.ensures.seen c.tally.ensures.answers

pub tally_octant-returns-clause-wholes : goal.tally_octant-returns-clause-wholes
tally_octant-returns-clause-wholes g t c =
    whole_right_before g.S.Subject.counts (g.B.Blocks.seen c.args.store.now)
    (g.B.Blocks.seen c.octant-subject.new.store) _ c.octant-subject.ensures.seen c.tally.ensures.wholes

pub tally_octant-returns-clause-rests : goal.tally_octant-returns-clause-rests
tally_octant-returns-clause-rests g t c =
    g.met.B.Blocks.rests_on _ _ _ c.octant-subject.ensures.rests c.tally.ensures.rests
