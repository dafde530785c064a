use Rattle.std.proofs.Common.{◌≢◌, Some, None, Bool, refl, sym, ◌∙◌, ap, subst, arith}
use Rattle.std.specs.Prelude.{◌↔◌, IsTrue}
use Rattle.node_words.specs.declared.shapes.names.Name.{Name}
use Rattle.node_words.specs.shapes.Tree.{root_of, child_of}
use Rattle.node_words.specs.Held.{StoreState, IsReached, AreTrees}
use Rattle.node_words.proofs.WalkLaws.{IsOnWay, way_begins, way_goes_on, way_ends_clear, way_ends_in_leaf}
use Rattle.node_words.proofs.under.has_cell.Goals as goal

pub loop-block-init : goal.loop-block-init
loop-block-init g c =
    let begins =
    way_begins _ c.args.share.now c.args.block c.args.c c.requires.held c.requires.level.0 c.requires.level.1 c.requires.inside c.requires.cell in (
      subst (λ (n : Name). IsOnWay
          (g.B.Blocks.seen c.args.store.now).held c.args.share.now c.args.block c.args.c n c.args.block) (sym c.of-node.ensures.name) begins,
      ap g.B.Blocks.seen c.of-node.ensures.store.1,
      subst (λ b. g.B.Blocks.rests c.args.store.now b) (sym c.of-node.ensures.store.1)
          (g.met.B.Blocks.rests_itself c.args.store.now),
      refl,
    )

pub returns-then-not-has_child-clause-set : goal.returns-then-not-has_child-clause-set
returns-then-not-has_child-clause-set g c t it e =
    let kept = c.loop-block.invariant in
    let trees =
    subst (λ (s : StoreState). AreTrees s.plan.side s.held) kept.1 c.has_child.ensures.trees in
    way_ends_clear _ _ _ _ c.args.block c.loop-block.block c.args.c c.octant_with-octant.result t trees c.octant_with-octant.ensures.octant (omega arith) c.octant_with-octant.ensures.cell
    (λ u iu f.
    subst (λ (b : Bool). IsTrue b
    ↔ (root_of (child_of u c.octant_with-octant.result) ≢ None)) c.if-not-has_child.true
    (c.has_child.ensures.child u (subst (λ (s : StoreState). IsReached s.held u) (sym kept.1) iu) f))
    kept.0 it e

pub loop-block-preserved : goal.loop-block-preserved
loop-block-preserved g c =
    let kept = c.loop-block.invariant in
    let trees =
    subst (λ (s : StoreState). AreTrees s.plan.side s.held) kept.1 c.has_child.ensures.trees in
    let seen = c.has_child.ensures.seen ∙ kept.1 in
    let way =
    way_goes_on _ _ _ c.loop-block.node.name c.below-node.result.name c.args.block c.loop-block.block c.args.c c.octant_with-octant.result trees c.octant_with-octant.ensures.octant (omega arith) c.octant_with-octant.ensures.cell
    (λ u iu f. c.below-node.ensures.child u
    (subst (λ (s : StoreState). IsReached s.held u) (sym seen) iu)
    (f ∙ ap Some (sym c.has_child.ensures.same.0)))
    kept.0 in (
      subst (λ b. IsOnWay
          (g.B.Blocks.seen c.args.store.now).held c.args.share.now c.args.block c.args.c c.below-node.result.name b) (sym c.child-block.ensures) way,
      c.below-node.ensures.seen ∙ seen,
      g.met.B.Blocks.rests_on _ _ _ kept.2
          (g.met.B.Blocks.rests_on _ _ _ c.has_child.ensures.rests c.below-node.ensures.rests),
      c.below-node.ensures.store ∙ c.has_child.ensures.same.1 ∙ kept.3,
    )

pub returns-clause-set : goal.returns-clause-set
returns-clause-set g c t it e =
    let kept = c.loop-block.invariant in
    let trees =
    subst (λ (s : StoreState). AreTrees s.plan.side s.held) kept.1 c.bits-bits.ensures.trees in
    way_ends_in_leaf _ _ _ _ c.args.block c.loop-block.block c.args.c t c.bits-bits.result c.is_set.result trees (omega arith)
    (λ u iu f. c.bits-bits.ensures.bits u
    (subst (λ (s : StoreState). IsReached s.held u) (sym kept.1) iu) f)
    c.is_set.ensures kept.0 it e
