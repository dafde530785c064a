use Rattle.std.proofs.Common.{refl, sym, subst}
use Rattle.node_words.specs.shapes.Tree.{LeafAt}
use Rattle.node_words.specs.Held.{StoreState, Gains, HoldsName}
use Rattle.node_words.proofs.HeldLaws.{gains_holds, gains_held, came_and_went}
use Rattle.tests_core.proofs.stores.under.made_and_read.Goals as goal

pub read_under-read-requires-clause-held : goal.read_under-read-requires-clause-held
read_under-read-requires-clause-held g c =
    gains_holds _ _ _ c.in_ok-share.share c.in_ok-share.ensures.held refl

pub back-requires-clause-held : goal.back-requires-clause-held
back-requires-clause-held g c =
    subst (λ (s : StoreState). HoldsName s.held c.in_ok-share.share) (sym c.read_under-read.ensures.seen)
    (gains_holds _ _ _ c.in_ok-share.share c.in_ok-share.ensures.held refl)

pub returns-clause-held : goal.returns-clause-held
returns-clause-held g c =
    let t = LeafAt c.in_ok-share.share c.args.bits in
    let came =
    subst (λ (s : StoreState). Gains (g.N.Blocks.seen c.args.store.now).held t s.held)
    (sym c.read_under-read.ensures.seen) c.in_ok-share.ensures.held in
    came_and_went _ _ _ t came (c.back.ensures.held t (gains_held _ t _ came) refl)

pub returns-clause-bits : goal.returns-clause-bits
returns-clause-bits g c =
    c.read_under-read.ensures.bits (LeafAt c.in_ok-share.share c.args.bits)
    (gains_held _ _ _ c.in_ok-share.ensures.held) refl
