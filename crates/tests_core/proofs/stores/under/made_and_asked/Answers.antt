use Rattle.std.proofs.Common.{refl, sym, subst}
use Rattle.node_words.specs.shapes.Tree.{LeafAt}
use Rattle.node_words.specs.Held.{StoreState, Gains, HoldsName}
use Rattle.node_words.proofs.HeldLaws.{gains_holds, gains_held, came_and_went}
use Rattle.tests_core.proofs.stores.under.made_and_asked.Goals as goal

pub has_cell-set-requires-clause-held : goal.has_cell-set-requires-clause-held
has_cell-set-requires-clause-held g c =
    gains_holds _ _ _ c.in_ok-share.share c.in_ok-share.ensures.held refl

pub back-requires-clause-held : goal.back-requires-clause-held
back-requires-clause-held g c =
    subst (λ (s : StoreState). HoldsName s.held c.in_ok-share.share) (sym c.has_cell-set.ensures.seen)
    (gains_holds _ _ _ c.in_ok-share.share c.in_ok-share.ensures.held refl)

pub returns : goal.returns
returns g c =
    let t = LeafAt c.in_ok-share.share 4 in
    let came =
    subst (λ (s : StoreState). Gains (g.N.Blocks.seen c.args.store.now).held t s.held)
    (sym c.has_cell-set.ensures.seen) c.in_ok-share.ensures.held in
    record {
      held = came_and_went _ _ _ t came
          (c.back.ensures.held t (gains_held _ t _ came) refl);
    }
