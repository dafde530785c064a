use Rattle.std.proofs.Common.{arith, refl, rules, ◌∙◌}
use Rattle.measure.proofs.WideningLaws.{nothing_widens, leaf_widens, all_octants, octant_widens, octant_lies, child_level, child_counts, still_counts, others_more}
use Rattle.measure.proofs.PruningLaws.{right_still, right_after}
use Rattle.measure.proofs.extents.+widen.Goals as goal

pub widen-returns-then-is_nothing-clause-widens : goal.widen-returns-then-is_nothing-clause-widens
widen-returns-then-is_nothing-clause-widens g t c =
    nothing_widens g.S.Subject.counts (g.B.Blocks.seen c.args.store.now).held c.args.subject c.args.place c.args.found.now
    (λ test p. c.if-is_nothing.ensures refl _ _ test p)

pub widen-returns-then-place-eq0-clause-widens : goal.widen-returns-then-place-eq0-clause-widens
widen-returns-then-place-eq0-clause-widens g t c =
    leaf_widens g.S.Subject.counts (g.B.Blocks.seen c.args.store.now).held c.args.subject c.args.place c.leaf-bits.result c.args.found.now _ (omega arith)
    c.leaf-bits.ensures.bits c.with_leaf.ensures.widens

pub widen_by_octants-returns-clause-widens : goal.widen_by_octants-returns-clause-widens
widen_by_octants-returns-clause-widens g t c cells test p shows =
    let seen = g.B.Blocks.seen in
    let counts = g.S.Subject.counts in
    let e1 = c.widen_in.ensures.seen in
    let e2 = c.widen_in-2.ensures.seen ∙ e1 in
    all_octants c.args.place cells c.args.corner c.args.found.now _ _ _ (omega arith)
    (c.widen_in.ensures.widens cells test p shows)
    (c.widen_in-2.ensures.widens cells test
    (still_counts counts (seen c.args.store.now) (seen c.widen_in.new.store) c.args.place.level c.args.subject test e1 p) shows)
    (c.widen_by_others.ensures.widens cells test
    (still_counts counts (seen c.args.store.now) (seen c.widen_in-2.new.store) c.args.place.level c.args.subject test e2 p) shows)

pub widen_by_others-loop-octant-preserved : goal.widen_by_others-loop-octant-preserved
widen_by_others-loop-octant-preserved g t c =
    let seen = g.B.Blocks.seen in
    let counts = g.S.Subject.counts in
    let was = c.loop-octant.invariant in
    record {
      widens = λ cells test p shows. others_more c.args.place cells c.args.corner c.loop-octant.octant c.args.found.now c.loop-octant.found _
          (was.widens cells test p shows)
          (c.widen_apart.ensures.widens cells test
          (still_counts counts (seen c.args.store.now)
          (seen c.loop-octant.store) c.args.place.level c.args.subject test was.same p) shows);
      ends = c.widen_apart.ensures.found;
      right = right_still counts (seen c.args.store.now)
          (seen c.loop-octant.store) _ was.same c.widen_apart.ensures.answers;
      block = c.widen_apart.ensures.block;
      same = c.widen_apart.ensures.seen ∙ was.same;
      rests = g.met.B.Blocks.rests_on _ _ _ was.rests c.widen_apart.ensures.rests;
    }

pub widen_in-widen-requires : goal.widen_in-widen-requires
widen_in-widen-requires g t c κs within =
    let seen = g.B.Blocks.seen in
    let level = child_level c.args.place c.child.result c.args.octant c.child.ensures in (
      omega (arith, c.decreases, c.requires.level.0, level),
      (
        within.0,
        (
          within.1,
          (
            (search rules),
            (
              omega (arith, c.requires.level.1, level),
              (
                child_counts g.S.Subject.counts (seen c.args.store.now)
                    (seen c.octant-child.new.store) c.args.place c.child.result c.args.octant c.args.subject c.octant-child.result c.requires.block.0
                    c.octant-child.ensures.seen c.child.ensures c.octant-child.ensures.octant c.requires.block.1,
                (
                  octant_lies c.args.place c.child.result c.args.octant c.requires.level.0 c.requires.octant c.child.ensures c.requires.inside,
                  (
                    c.requires.octant,
                    (
                      c.requires.found,
                      right_after g.S.Subject.counts (seen c.args.store.now)
                          (seen c.octant-child.new.store) _ c.octant-child.ensures.seen c.requires.answers,
                    ),
                  ),
                ),
              ),
            ),
          ),
        ),
      ),
    )

pub widen_in-returns-clause-widens : goal.widen_in-returns-clause-widens
widen_in-returns-clause-widens g t c =
    octant_widens g.S.Subject.counts (g.B.Blocks.seen c.args.store.now)
    (g.B.Blocks.seen c.octant-child.new.store) c.args.subject c.octant-child.result c.args.place c.child.result c.args.octant c.args.found.now _
    c.octant-child.ensures.seen c.requires.level.0 c.requires.octant c.child.ensures c.octant-child.ensures.octant c.widen.ensures.widens

pub widen-returns-clause-answers : goal.widen-returns-clause-answers
widen-returns-clause-answers g t c =
    c.note.ensures _ c.args.found.now c.widen_by_octants.ensures.answers
    c.widen_by_octants.ensures.widens
