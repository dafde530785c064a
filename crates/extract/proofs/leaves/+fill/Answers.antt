use Rattle.std.proofs.Common.{◌∙◌, arith, refl, rules, sym, subst}
use Rattle.vw_cell.specs.declared.blocks.Block.{Block}
use Rattle.measure.proofs.WholeLaws.{whole_right_before}
use Rattle.measure.proofs.WideningLaws.{child_level, child_counts, still_counts, octant_lies}
use Rattle.extract.specs.Filling.{Fills}
use Rattle.extract.proofs.FillLaws.{LiesAmong, nothing_fills, leaf_fills, fills_more, fills_block, misses_fills, octant_fills, octant_corner, not_both}
use Rattle.extract.proofs.leaves.+fill.Goals as goal

pub fill-returns-then-is_nothing-clause-fills : goal.fill-returns-then-is_nothing-clause-fills
fill-returns-then-is_nothing-clause-fills g t c =
    nothing_fills g.S.Subject.counts (g.B.Blocks.seen c.args.store.now).held c.args.subject c.args.place c.args.b c.args.layer c.args.leaves.now
    (λ test p. c.if-is_nothing.ensures refl _ _ test p) c.requires.corner

pub fill-returns-then-place-eq0-clause-fills : goal.fill-returns-then-place-eq0-clause-fills
fill-returns-then-place-eq0-clause-fills g t c =
    leaf_fills g.S.Subject.counts (g.B.Blocks.seen c.args.store.now).held c.args.subject c.args.place c.args.b c.args.layer c.number_at-m.result c.leaf-bits.result c.args.leaves.now (omega arith) c.requires.b (omega (arith, c.number_at-m.ensures.few, c.fits-leaves)) c.number_at-m.ensures.corner c.leaf-bits.ensures.bits

pub fill-returns-then-passes_none-clause-fills : goal.fill-returns-then-passes_none-clause-fills
fill-returns-then-passes_none-clause-fills g t c =
    nothing_fills g.S.Subject.counts (g.B.Blocks.seen c.args.store.now).held c.args.subject c.args.place c.args.b c.args.layer c.args.leaves.now
    (c.if-passes_none.ensures.none refl) c.requires.corner

pub fill-returns-clause-fills : goal.fill-returns-clause-fills
fill-returns-clause-fills g t c cells test p shows =
    c.fill_octants.ensures.fills cells test
    (still_counts g.S.Subject.counts (g.B.Blocks.seen c.args.store.now) (g.B.Blocks.seen c.passes_none.new.store) c.args.place.level c.args.subject test c.passes_none.ensures.seen p)
    shows

pub fill_octants-loop-octant-preserved : goal.fill_octants-loop-octant-preserved
fill_octants-loop-octant-preserved g t c =
    let seen = g.B.Blocks.seen in
    let counts = g.S.Subject.counts in
    let was = c.loop-octant.invariant in
    record {
      fills = λ cells test p shows. fills_more c.args.place c.args.b c.args.layer c.loop-octant.octant cells c.args.leaves.now c.loop-octant.leaves c.fill_octant.new.leaves (was.fills cells test p shows)
          (c.fill_octant.ensures.fills cells test
          (still_counts counts (seen c.args.store.now)
          (seen c.loop-octant.store) c.args.place.level c.args.subject test was.same p) shows);
      block = c.fill_octant.ensures.block;
      wholes = whole_right_before counts (seen c.args.store.now) (seen c.loop-octant.store) _ was.same c.fill_octant.ensures.wholes;
      same = c.fill_octant.ensures.seen ∙ was.same;
      rests = g.met.B.Blocks.rests_on _ _ _ was.rests c.fill_octant.ensures.rests;
    }

pub fill_octants-returns-clause-fills : goal.fill_octants-returns-clause-fills
fill_octants-returns-clause-fills g t c cells test p shows =
    fills_block c.args.place c.args.b c.args.layer c.loop-octant.octant cells c.args.leaves.now c.loop-octant.leaves (omega arith) (omega arith) (c.loop-octant.invariant.fills cells test p shows)

pub fill_octant-returns-then-not-meets-clause-fills : goal.fill_octant-returns-then-not-meets-clause-fills
fill_octant-returns-then-not-meets-clause-fills g t c cells test p shows =
    let corner =
    octant_corner c.args.place c.child-inner.result c.args.octant c.requires.octant c.child-inner.ensures c.requires.corner in
    subst (λ (q : Block). Fills
    (LiesAmong c.args.b c.args.layer q) c.args.b c.args.layer cells c.args.leaves.now c.args.leaves.now) c.child-inner.ensures
    (misses_fills c.child-inner.result c.args.b c.args.layer cells c.args.leaves.now c.requires.b corner (λ m. not_both c.meets.result c.if-not-meets.true (c.meets.ensures.1 m)))

pub fill_octant-meets-requires-clause-inside : goal.fill_octant-meets-requires-clause-inside
fill_octant-meets-requires-clause-inside g t c =
    octant_lies c.args.place c.child-inner.result c.args.octant c.requires.level.0 c.requires.octant c.child-inner.ensures c.requires.inside

pub fill_octant-fill-requires : goal.fill_octant-fill-requires
fill_octant-fill-requires g t c κs within =
    let seen = g.B.Blocks.seen in
    let level =
    child_level c.args.place c.child-inner.result c.args.octant c.child-inner.ensures in (
      omega (arith, c.decreases, c.requires.level.0, level),
      (
        within.0,
        (
          within.1,
          (
            (search rules),
            (
              omega (arith, c.requires.level.1, level),
              (
                child_counts g.S.Subject.counts (seen c.args.store.now)
                    (seen c.octant-child.new.store) c.args.place c.child-inner.result c.args.octant c.args.subject c.octant-child.result c.requires.block.0
                    c.octant-child.ensures.seen c.child-inner.ensures c.octant-child.ensures.octant c.requires.block.1,
                (
                  octant_lies c.args.place c.child-inner.result c.args.octant c.requires.level.0 c.requires.octant c.child-inner.ensures c.requires.inside,
                  (
                    octant_corner c.args.place c.child-inner.result c.args.octant c.requires.octant c.child-inner.ensures c.requires.corner,
                    (
                      c.requires.b,
                      (
                        c.requires.layer,
                        (
                          c.meets.ensures.0 c.if-not-meets.false,
                          whole_right_before g.S.Subject.counts (seen c.octant-child.new.store) (seen c.args.store.now) _ (sym c.octant-child.ensures.seen) c.requires.wholes,
                        ),
                      ),
                    ),
                  ),
                ),
              ),
            ),
          ),
        ),
      ),
    )

pub fill_octant-returns-clause-fills : goal.fill_octant-returns-clause-fills
fill_octant-returns-clause-fills g t c =
    octant_fills g.S.Subject.counts (g.B.Blocks.seen c.args.store.now)
    (g.B.Blocks.seen c.octant-child.new.store) c.args.subject c.octant-child.result c.args.place c.child-inner.result c.args.octant c.args.b c.args.layer c.args.leaves.now c.fill.new.leaves
    c.octant-child.ensures.seen c.requires.level.0 c.requires.octant c.child-inner.ensures c.octant-child.ensures.octant c.fill.ensures.fills

pub fill_octant-returns-clause-wholes : goal.fill_octant-returns-clause-wholes
fill_octant-returns-clause-wholes g t c =
    whole_right_before g.S.Subject.counts (g.B.Blocks.seen c.args.store.now)
    (g.B.Blocks.seen c.octant-child.new.store) _ c.octant-child.ensures.seen c.fill.ensures.wholes
