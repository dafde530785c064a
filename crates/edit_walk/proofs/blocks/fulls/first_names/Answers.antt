use Rattle.std.proofs.Common.{◌∙◌, ◌-◌, refl, sym, subst, arith, Some, None}
use Rattle.std.proofs.Math.ListN.{replicate}
use Rattle.std.proofs.lemmas.List.{length-set}
use Rattle.node_words.specs.shapes.Tree.{Tree}
use Rattle.node_words.specs.Held.{StoreState, ReachesName}
use Rattle.edit_walk.specs.blocks.Blocks.{IsFullBlock, first_below}
use Rattle.edit_walk.proofs.OfBlocks.AsideLaws.{FirstStep, first_itself, first_name, first_step, full_child_there, full_reaches, next_name}
use Rattle.edit_walk.proofs.blocks.fulls.first_names.Goals as goal

pub loop-at-init : goal.loop-at-init
loop-at-init g c = record {
  low = omega arith;
  leads = λ t f. first_itself _ t c.args.n f;
  names = λ t f. first_name _ t c.args.n (replicate 11 None) f refl c.requires.level;
  long = length-set (replicate 11 None) c.args.n.level (Some c.args.n);
  same = refl;
  rests = g.met.B.Blocks.rests_itself _;
}

pub child_at-requires-clause-reached : goal.child_at-requires-clause-reached
child_at-requires-clause-reached g c =
    let was = c.loop-at.invariant in
    let (t, f) = c.requires.full in
    subst (λ (s : StoreState). ReachesName s.held c.loop-at.at) (sym was.same)
    (full_reaches _ _ _ (was.leads t f))

pub unreachable-requires : goal.unreachable-requires
unreachable-requires g c =
    let was = c.loop-at.invariant in
    let (t, f) = c.requires.full in
    let r = subst (λ (s : StoreState). IsFullBlock s.held (first_below (c.args.n.level - c.loop-at.at.level) t) c.loop-at.at) (sym was.same) (was.leads t f) in
    full_child_there _ _ _ r (omega arith)
    (sym (c.child_at.ensures.child _ r.reached r.root) ∙ c.in-None.is)

pub loop-at-preserved : goal.loop-at-preserved
loop-at-preserved g c =
    let was = c.loop-at.invariant in
    let (u, h) = c.requires.full in
    let step : (t : Tree) → IsFullBlock (g.B.Blocks.seen c.args.store.now).held t c.args.n
    → FirstStep (g.B.Blocks.seen c.args.store.now).held c.args.n c.loop-at.at c.in-Some.below t =
    (λ t f.
    let r = subst (λ (s : StoreState). IsFullBlock s.held (first_below (c.args.n.level - c.loop-at.at.level) t) c.loop-at.at) (sym was.same) (was.leads t f) in
    first_step _ c.args.n c.loop-at.at c.in-Some.below t was.low (omega arith) (was.leads t f)
    (sym (c.child_at.ensures.child _ r.reached r.root) ∙ c.in-Some.is)) in
    let falls = (step u h).falls in
    record {
      low = omega (arith, falls, was.low);
      leads = λ t f. (step t f).block;
      names = λ t f. next_name _ c.args.n c.loop-at.at c.in-Some.below t c.loop-at.names was.long
          c.requires.level was.low (step t f) (was.names t f);
      long = length-set c.loop-at.names c.in-Some.below.level (Some c.in-Some.below) ∙ was.long;
      same = c.child_at.ensures.seen ∙ was.same;
      rests = g.met.B.Blocks.rests_on _ _ _ was.rests c.child_at.ensures.rests;
    }

pub bounds-names-at : goal.bounds-names-at
bounds-names-at g c =
    let was = c.loop-at.invariant in
    let (t, f) = c.requires.full in
    let r = subst (λ (s : StoreState). IsFullBlock s.held (first_below (c.args.n.level - c.loop-at.at.level) t) c.loop-at.at) (sym was.same) (was.leads t f) in
    let falls = (first_step _ c.args.n c.loop-at.at c.in-Some.below t was.low (omega arith)
    (was.leads t f) (sym (c.child_at.ensures.child _ r.reached r.root) ∙ c.in-Some.is)).falls in
    omega (arith, falls, was.low, c.requires.level)

pub loop-at-smaller : goal.loop-at-smaller
loop-at-smaller g c =
    let was = c.loop-at.invariant in
    let (t, f) = c.requires.full in
    let r = subst (λ (s : StoreState). IsFullBlock s.held (first_below (c.args.n.level - c.loop-at.at.level) t) c.loop-at.at) (sym was.same) (was.leads t f) in
    let falls = (first_step _ c.args.n c.loop-at.at c.in-Some.below t was.low (omega arith)
    (was.leads t f) (sym (c.child_at.ensures.child _ r.reached r.root) ∙ c.in-Some.is)).falls in
    omega (arith, falls)
