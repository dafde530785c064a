use Rattle.std.proofs.Common.{sym, ap, refl, arith, subst, ◌≤◌, List}
use Rattle.node_words.specs.shapes.Tree.{Tree}
use Rattle.std.proofs.lemmas.Bool.{false≢true}
use Rattle.node_words.specs.shapes.Weights.{weigh}
use Rattle.node_words.specs.Held.{AreHeld}
use Rattle.node_words.proofs.HeldLaws.{keeps_itself}
use Rattle.node_words.proofs.GatherLaws.{grows_none}
use Rattle.edit_walk.proofs.OfBlocks.JoinLaws.{join_grows, join_refuses, join_below, gathers_held, back_aside}
use Rattle.edit_walk.proofs.OfBlocks.ReachLaws.{join_none_joined, join_some_joined}
use Rattle.edit_walk.proofs.blocks.blocks.join.Goals as goal

pub returns-then-are_none-clause-joined : goal.returns-then-are_none-clause-joined
returns-then-are_none-clause-joined g c rest full target k a = record {
  joined = join_none_joined rest _ full c.args.level target c.args.children (omega arith) k a
      (c.if-are_none.ensures.none refl);
  grows = grows_none _ _;
}

pub node-requires-clause-some : goal.node-requires-clause-some
node-requires-clause-some g c = c.if-are_none.ensures.some false≢true

pub node-requires-clause-below : goal.node-requires-clause-below
node-requires-clause-below g c =
    let
    (rest, full, target, k, a) = c.requires.octants in join_below rest _ full c.args.level target c.args.children (omega arith) a

pub returns-in-Ok-clause-joined : goal.returns-in-Ok-clause-joined
returns-in-Ok-clause-joined g c rest full target k a =
    let some = c.if-are_none.ensures.some false≢true in
    let held = gathers_held rest _ _ full _ target _ 8 a (keeps_itself _) in
    record {
      joined = join_some_joined rest _ _ full c.args.level target c.args.children c.in-Ok.share
          (omega arith) k some c.in-Ok.ensures.level a
          (c.in-Ok.ensures.held a.gathered.row held);
      grows = join_grows rest _ full c.args.level target c.args.children _ _ (omega arith) k some a
          (c.in-Ok.ensures.grants a.gathered.row held);
    }

pub returns-in-Err-clause-joined : goal.returns-in-Err-clause-joined
returns-in-Err-clause-joined g c rest full target k a =
    let one : 1 ≤ c.args.level = omega arith in
    let row = a.gathered.row in
    let some = c.if-are_none.ensures.some false≢true in
    let m =
    c.in-Err.ensures.full row (gathers_held rest _ _ full _ target _ 8 a (keeps_itself _)) in
    let h =
    gathers_held rest _ (g.N.Blocks.seen c.node.new.self).held full _ target _ 8 a
    (record { weighs = λ f. omega (arith, ap (λ (ts : List Tree). weigh f ts) m.held) }) in
    let l =
    c.back_all.ensures.gone row
    (subst (λ cs. AreHeld (g.N.Blocks.seen c.node.new.self).held cs row)
    (sym c.in-Err.ensures.back) h) in
    record {
      refuses = join_refuses rest _ full c.args.level _ _ target c.args.children _ _ _ one k some a
          m c.back_all.ensures.only;
      aside = back_aside rest _ _ _ full _ target _ 8 a
          (λ f. ap (λ (ts : List Tree). weigh f ts) m.held) l;
    }
