use Rattle.std.proofs.Common.{◌∙◌, refl, arith, subst, ℕ, ◌≡◌, ◌+◌}
use Rattle.node_words.specs.contents.CellShapes.{full_shape}
use Rattle.node_words.proofs.HeldLaws.{only_nothing, only_on}
use Rattle.edit_walk.specs.blocks.Blocks.{Gathers, no_full_blocks}
use Rattle.edit_walk.proofs.OfBlocks.JoinLaws.{gathers_none, full_gathers, gathers_empty, aside_came}
use Rattle.edit_walk.proofs.blocks.fulls.eight_of.Goals as goal

pub loop-k-init : goal.loop-k-init
loop-k-init g c = record {
  gathers = λ rest n e a. gathers_none _ rest _ _ _ a;
  long = refl;
  number = omega arith;
  only = only_nothing _;
  rests = g.met.N.Blocks.rests_itself _;
  turns = omega arith;
}

pub more_of-share-requires-clause-aside : goal.more_of-share-requires-clause-aside
more_of-share-requires-clause-aside g c =
    let (rest, a) = c.requires.aside in
    let (n, e) = c.requires.full in
    let x = c.loop-k.invariant.gathers rest n e a in
    (x.now, x.aside)

pub put-requires-clause-empty : goal.put-requires-clause-empty
put-requires-clause-empty g c =
    let (rest, a) = c.requires.aside in
    let (n, e) = c.requires.full in
    gathers_empty rest _ _ _ _ _ _ c.loop-k.k (omega arith) (c.loop-k.invariant.gathers rest n e a)

pub loop-k-preserved : goal.loop-k-preserved
loop-k-preserved g c = record {
  gathers = λ rest n e a.
      let x = c.loop-k.invariant.gathers rest n e a in
      full_gathers rest _ _ _ _ n.level _ _ c.loop-k.k c.more_of-share.result
      (omega arith) c.loop-k.invariant.long x
      (c.more_of-share.ensures.came x.now n e x.aside) c.put.ensures;
  long = c.put.auto.children ∙ c.loop-k.invariant.long;
  number = omega arith;
  only = only_on _ _ _ c.loop-k.invariant.only c.more_of-share.ensures.only;
  rests = g.met.N.Blocks.rests_on _ _ _ c.loop-k.invariant.rests c.more_of-share.ensures.rests;
  turns = omega arith;
}

pub put-requires-2-clause-empty : goal.put-requires-2-clause-empty
put-requires-2-clause-empty g c =
    let (rest, a) = c.requires.aside in
    let (n, e) = c.requires.full in
    gathers_empty rest _ _ _ _ _ _ 7 (omega arith) (c.loop-k.invariant.gathers rest n e a)

pub returns-clause-gathers : goal.returns-clause-gathers
returns-clause-gathers g c rest n e a =
    let seven : c.loop-k.k ≡ 7 = omega arith in
    let x =
    subst (λ (k : ℕ). Gathers rest n.level (full_shape (n.level + 1)) c.loop-k.children k
    (g.N.Blocks.seen c.loop-k.store).held c.args.below) seven
    (c.loop-k.invariant.gathers rest n e a) in
    full_gathers rest _ _ _ no_full_blocks n.level _ _ 7 c.args.below.share (omega arith) c.loop-k.invariant.long x
    (aside_came _ x.now _ n e x.aside) c.put-2.ensures
