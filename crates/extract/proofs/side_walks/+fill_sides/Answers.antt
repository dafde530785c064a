use Rattle.std.proofs.Common.{◌∙◌, ap, arith, refl, sym, subst}
use Rattle.std.specs.Prelude.{not}
use Rattle.vw_cell.specs.declared.blocks.Block.{Block}
use Rattle.measure.specs.Faces.{passes_exposed}
use Rattle.node_words.proofs.OfDescent.LookLaws.{is_nothing}
use Rattle.measure.proofs.FaceLaws.{nothing_bare}
use Rattle.measure.proofs.WideningLaws.{child_level, still_counts, octant_lies}
use Rattle.extract.specs.Filling.{Fills}
use Rattle.extract.specs.Sides.{beside_of, leaf_towards, sided, words_towards}
use Rattle.extract.proofs.FillLaws.{LiesAmong, nothing_fills, leaf_fills, misses_fills, octant_fills, octant_corner, not_both}
use Rattle.extract.proofs.NearLaws.{found_before}
use Rattle.extract.proofs.SideLaws.{all_filled, blank_octant, first_filled, near_name, near_octant, near_still, next_filled, octant_sides, put_fills}
use Rattle.extract.proofs.side_walks.+fill_sides.Goals as goal

pub fill_sides-returns-then-is_none-clause-fills :
    goal.fill_sides-returns-then-is_none-clause-fills
fill_sides-returns-then-is_none-clause-fills g t c d =
    let held = (g.B.Blocks.seen c.args.store.now).held in
    nothing_fills passes_exposed held (sided c.args.subject.now d) c.args.place c.args.b c.args.layer (words_towards c.args.words.now d)
    (λ test p. nothing_bare d held c.args.place.level c.args.subject.now.block (beside_of c.args.subject.now d) test
    (is_nothing _ (c.is_none.ensures ∙ ap not c.if-is_none.true)) p) c.requires.corner

pub fill_sides-returns-then-place-eq0-clause-fills :
    goal.fill_sides-returns-then-place-eq0-clause-fills
fill_sides-returns-then-place-eq0-clause-fills g t c d =
    let held = (g.B.Blocks.seen c.args.store.now).held in
    put_fills d held c.args.subject.now c.args.place c.args.b c.args.layer c.number_at-m.result (leaf_towards c.leaf-leaf.result d)
    (words_towards c.args.words.now d) _ (c.put.ensures.put d)
    (leaf_fills passes_exposed held (sided c.args.subject.now d) c.args.place c.args.b c.args.layer c.number_at-m.result
    (leaf_towards c.leaf-leaf.result d) (words_towards c.args.words.now d) (omega arith) c.requires.b (c.put.ensures.places d) c.number_at-m.ensures.corner (c.leaf-leaf.ensures.bits d))

pub fill_sides-returns-then-is_hidden-clause-fills :
    goal.fill_sides-returns-then-is_hidden-clause-fills
fill_sides-returns-then-is_hidden-clause-fills g t c d =
    nothing_fills passes_exposed (g.B.Blocks.seen c.args.store.now).held (sided c.args.subject.now d) c.args.place c.args.b c.args.layer (words_towards c.args.words.now d)
    (c.if-is_hidden.ensures.none refl d) c.requires.corner

pub fill_sides-returns-then-place-eq1-clause-fills :
    goal.fill_sides-returns-then-place-eq1-clause-fills
fill_sides-returns-then-place-eq1-clause-fills g t c d cells test p shows =
    c.fill_side_leaves.ensures.fills d cells test
    (still_counts passes_exposed (g.B.Blocks.seen c.args.store.now) (g.B.Blocks.seen c.is_hidden.new.store) c.args.place.level
    (sided c.args.subject.now d) test c.is_hidden.ensures.seen p)
    shows

pub fill_sides-returns-clause-fills : goal.fill_sides-returns-clause-fills
fill_sides-returns-clause-fills g t c d cells test p shows =
    c.fill_side_octants.ensures.fills d cells test
    (still_counts passes_exposed (g.B.Blocks.seen c.args.store.now) (g.B.Blocks.seen c.is_hidden.new.store) c.args.place.level
    (sided c.args.subject.now d) test c.is_hidden.ensures.seen p)
    shows

pub fill_side_octants-returns-clause-fills : goal.fill_side_octants-returns-clause-fills
fill_side_octants-returns-clause-fills g t c =
    let seen = g.B.Blocks.seen in
    let s = c.args.subject.now in
    let place = c.args.place in
    let b = c.args.b in
    let layer = c.args.layer in
    let a = seen c.args.store.now in
    let e0 = c.of-near.ensures.seen in
    let f0 = first_filled a.held s place b layer c.args.words.now in
    let f1 =
    next_filled a (seen c.of-near.new.store) s place b layer 0 c.args.words.now c.args.words.now c.fill_side_octant.new.words e0 f0
    c.fill_side_octant.ensures.fills in
    let e1 = c.fill_side_octant.ensures.seen ∙ e0 in
    let f2 =
    next_filled a (seen c.fill_side_octant.new.store) s place b layer 1 c.args.words.now c.fill_side_octant.new.words c.fill_side_octant-2.new.words e1 f1
    c.fill_side_octant-2.ensures.fills in
    let e2 = c.fill_side_octant-2.ensures.seen ∙ e1 in
    let f3 =
    next_filled a (seen c.fill_side_octant-2.new.store) s place b layer 2 c.args.words.now c.fill_side_octant-2.new.words c.fill_side_octant-3.new.words e2 f2
    c.fill_side_octant-3.ensures.fills in
    let e3 = c.fill_side_octant-3.ensures.seen ∙ e2 in
    let f4 =
    next_filled a (seen c.fill_side_octant-3.new.store) s place b layer 3 c.args.words.now c.fill_side_octant-3.new.words c.fill_side_octant-4.new.words e3 f3
    c.fill_side_octant-4.ensures.fills in
    let e4 = c.fill_side_octant-4.ensures.seen ∙ e3 in
    let f5 =
    next_filled a (seen c.fill_side_octant-4.new.store) s place b layer 4 c.args.words.now c.fill_side_octant-4.new.words c.fill_side_octant-5.new.words e4 f4
    c.fill_side_octant-5.ensures.fills in
    let e5 = c.fill_side_octant-5.ensures.seen ∙ e4 in
    let f6 =
    next_filled a (seen c.fill_side_octant-5.new.store) s place b layer 5 c.args.words.now c.fill_side_octant-5.new.words c.fill_side_octant-6.new.words e5 f5
    c.fill_side_octant-6.ensures.fills in
    let e6 = c.fill_side_octant-6.ensures.seen ∙ e5 in
    let f7 =
    next_filled a (seen c.fill_side_octant-6.new.store) s place b layer 6 c.args.words.now c.fill_side_octant-6.new.words c.fill_side_octant-7.new.words e6 f6
    c.fill_side_octant-7.ensures.fills in
    let e7 = c.fill_side_octant-7.ensures.seen ∙ e6 in
    let f8 =
    next_filled a (seen c.fill_side_octant-7.new.store) s place b layer 7 c.args.words.now c.fill_side_octant-7.new.words c.fill_side_octant-8.new.words e7 f7
    c.fill_side_octant-8.ensures.fills in
    all_filled a.held s place b layer c.args.words.now c.fill_side_octant-8.new.words c.requires.level.0 f8

pub fill_side_octants-returns-clause-found : goal.fill_side_octants-returns-clause-found
fill_side_octants-returns-clause-found g t c =
    found_before (g.B.Blocks.seen c.args.store.now)
    (g.B.Blocks.seen c.fill_side_octant-8.new.store) _
    (c.fill_side_octant-8.ensures.seen ∙ c.fill_side_octant-7.ensures.seen ∙ c.fill_side_octant-6.ensures.seen ∙ c.fill_side_octant-5.ensures.seen ∙ c.fill_side_octant-4.ensures.seen ∙ c.fill_side_octant-3.ensures.seen ∙ c.fill_side_octant-2.ensures.seen ∙ c.fill_side_octant.ensures.seen ∙ c.of-near.ensures.seen)
    c.fill_side_octant-8.ensures.found

pub fill_side_octants-returns-clause-rests : goal.fill_side_octants-returns-clause-rests
fill_side_octants-returns-clause-rests g t c =
    g.met.B.Blocks.rests_on _ _ _ (g.met.B.Blocks.rests_on _ _ _ (g.met.B.Blocks.rests_on _ _ _ (g.met.B.Blocks.rests_on _ _ _ (g.met.B.Blocks.rests_on _ _ _ (g.met.B.Blocks.rests_on _ _ _ (g.met.B.Blocks.rests_on _ _ _ (g.met.B.Blocks.rests_on _ _ _ c.of-near.ensures.rests c.fill_side_octant.ensures.rests) c.fill_side_octant-2.ensures.rests) c.fill_side_octant-3.ensures.rests) c.fill_side_octant-4.ensures.rests) c.fill_side_octant-5.ensures.rests) c.fill_side_octant-6.ensures.rests) c.fill_side_octant-7.ensures.rests) c.fill_side_octant-8.ensures.rests

pub fill_side_octant-returns-then-not-meets-clause-fills :
    goal.fill_side_octant-returns-then-not-meets-clause-fills
fill_side_octant-returns-then-not-meets-clause-fills g t c d cells test p shows =
    let corner =
    octant_corner c.args.place c.child-inner.result c.args.octant c.requires.octant c.child-inner.ensures c.requires.corner in
    subst (λ (q : Block). Fills
    (LiesAmong c.args.b c.args.layer q) c.args.b c.args.layer cells (words_towards c.args.words.now d) (words_towards c.args.words.now d)) c.child-inner.ensures
    (misses_fills c.child-inner.result c.args.b c.args.layer cells (words_towards c.args.words.now d) c.requires.b corner (λ m. not_both c.meets.result c.if-not-meets.true (c.meets.ensures.1 m)))

pub fill_side_octant-returns-then-is_none-clause-fills :
    goal.fill_side_octant-returns-then-is_none-clause-fills
fill_side_octant-returns-then-is_none-clause-fills g t c d =
    blank_octant d (g.B.Blocks.seen c.args.store.now).held c.args.place c.child-inner.result
    c.args.octant c.args.subject.now c.octant-child.result.block c.args.b c.args.layer
    (words_towards c.args.words.now d) (is_nothing _ (c.is_none.ensures ∙ ap not c.if-is_none.true))
    c.requires.level.0 c.requires.octant c.child-inner.ensures
    (octant_corner c.args.place c.child-inner.result c.args.octant c.requires.octant
    c.child-inner.ensures c.requires.corner)
    (near_name (g.B.Blocks.seen c.args.store.now).held c.args.place.level c.args.octant
    c.args.subject.now c.octant-child.result c.args.near.now c.requires.octant c.requires.near
    c.octant-child.ensures.block)

pub fill_side_octant-fill_sides-requires : goal.fill_side_octant-fill_sides-requires
fill_side_octant-fill_sides-requires g t c κs within =
    let seen = g.B.Blocks.seen in
    let level =
    child_level c.args.place c.child-inner.result c.args.octant c.child-inner.ensures in (
      omega (arith, c.decreases, c.requires.level.0, level),
      (
        within,
        (
          omega (arith, c.requires.level.1, level),
          (
            octant_sides (seen c.args.store.now) (seen c.args.store.now) c.args.place
                c.child-inner.result c.args.octant c.args.subject.now c.octant-child.result refl
                c.child-inner.ensures
                (near_octant (seen c.args.store.now) c.args.place.level c.args.octant
                c.args.subject.now c.octant-child.result c.args.near.now c.requires.level.0
                c.requires.octant c.requires.near c.octant-child.ensures.block
                c.octant-child.ensures.beside)
                c.requires.block,
            (
              octant_lies c.args.place c.child-inner.result c.args.octant c.requires.level.0
                  c.requires.octant c.child-inner.ensures c.requires.inside,
              (
                octant_corner c.args.place c.child-inner.result c.args.octant c.requires.octant
                    c.child-inner.ensures c.requires.corner,
                (
                  c.requires.b,
                  (
                    c.requires.layer,
                    (c.meets.ensures.0 c.if-not-meets.false, c.requires.found),
                  ),
                ),
              ),
            ),
          ),
        ),
      ),
    )

pub fill_side_octant-returns-clause-fills : goal.fill_side_octant-returns-clause-fills
fill_side_octant-returns-clause-fills g t c d =
    let seen = g.B.Blocks.seen in
    octant_fills passes_exposed (seen c.args.store.now) (seen c.args.store.now)
    (sided c.args.subject.now d) (sided c.octant-child.result d) c.args.place
    c.child-inner.result c.args.octant c.args.b c.args.layer (words_towards c.args.words.now d)
    (words_towards c.fill_sides.new.words d) refl c.requires.level.0 c.requires.octant
    c.child-inner.ensures
    (near_octant (seen c.args.store.now) c.args.place.level c.args.octant c.args.subject.now
    c.octant-child.result c.args.near.now c.requires.level.0 c.requires.octant c.requires.near
    c.octant-child.ensures.block c.octant-child.ensures.beside d)
    (c.fill_sides.ensures.fills d)

pub fill_side_octant-returns-clause-near : goal.fill_side_octant-returns-clause-near
fill_side_octant-returns-clause-near g t c =
    near_still (g.B.Blocks.seen c.args.store.now) (g.B.Blocks.seen c.fill_sides.new.store)
    c.args.place.level c.args.subject.now c.args.near.now c.fill_sides.ensures.seen
    c.requires.near

pub fill_side_octant-returns-clause-found : goal.fill_side_octant-returns-clause-found
fill_side_octant-returns-clause-found g t c =
    found_before (g.B.Blocks.seen c.fill_sides.new.store)
    (g.B.Blocks.seen c.args.store.now) _ (sym c.fill_sides.ensures.seen)
    c.fill_sides.ensures.found
