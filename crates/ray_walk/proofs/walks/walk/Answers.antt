use Rattle.std.proofs.Common.{ℕ, subst, ◌∙◌}
use Rattle.vw_cell.specs.Places.{IsInWorld}
use Rattle.ray_walk.proofs.WalkLaws.{block_clear_on, block_misses, ends_in_block}
use Rattle.ray_walk.proofs.walks.walk.Goals as goal

pub leaves-next-requires-clause-x : goal.leaves-next-requires-clause-x
leaves-next-requires-clause-x g c =
    (ends_in_block (g.B.Blocks.seen c.args.store.now)
    (g.B.Blocks.seen c.loop-clear.store) c.args.level c.args.block c.loop-clear.cell c.in-Some.clear c.loop-clear.invariant.same c.requires.level c.requires.block c.in-Some.ensures.looks).0.x

pub leaves-next-requires-clause-y : goal.leaves-next-requires-clause-y
leaves-next-requires-clause-y g c =
    (ends_in_block (g.B.Blocks.seen c.args.store.now)
    (g.B.Blocks.seen c.loop-clear.store) c.args.level c.args.block c.loop-clear.cell c.in-Some.clear c.loop-clear.invariant.same c.requires.level c.requires.block c.in-Some.ensures.looks).0.y

pub leaves-next-requires-clause-z : goal.leaves-next-requires-clause-z
leaves-next-requires-clause-z g c =
    (ends_in_block (g.B.Blocks.seen c.args.store.now)
    (g.B.Blocks.seen c.loop-clear.store) c.args.level c.args.block c.loop-clear.cell c.in-Some.clear c.loop-clear.invariant.same c.requires.level c.requires.block c.in-Some.ensures.looks).0.z

pub returns-in-None-clause-meets : goal.returns-in-None-clause-meets
returns-in-None-clause-meets g c =
    let clear =
    ends_in_block (g.B.Blocks.seen c.args.store.now)
    (g.B.Blocks.seen c.loop-clear.store) c.args.level c.args.block c.loop-clear.cell c.in-Some.clear c.loop-clear.invariant.same c.requires.level c.requires.block c.in-Some.ensures.looks in
    let stays =
    c.leaves-next.ensures.within c.loop-clear.instant c.loop-clear.cell c.loop-clear.invariant.at clear.1 c.loop-clear.invariant.near in
    block_misses (g.B.Blocks.seen c.args.store.now)
    (g.B.Blocks.seen c.loop-clear.store) c.args.level c.world_side-side.result c.args.block c.args.course.now c.loop-clear.instant c.leaves-next.result c.loop-clear.cell c.in-Some.clear
    c.loop-clear.invariant.same c.world_side-side.ensures c.in-Some.ensures.looks stays c.in-None.ensures c.loop-clear.invariant.before

pub loop-clear-preserved : goal.loop-clear-preserved
loop-clear-preserved g c =
    let clear =
    ends_in_block (g.B.Blocks.seen c.args.store.now)
    (g.B.Blocks.seen c.loop-clear.store) c.args.level c.args.block c.loop-clear.cell c.in-Some.clear c.loop-clear.invariant.same c.requires.level c.requires.block c.in-Some.ensures.looks in
    let stays =
    c.leaves-next.ensures.within c.loop-clear.instant c.loop-clear.cell c.loop-clear.invariant.at clear.1 c.loop-clear.invariant.near in
    record {
      at = c.in-Some-place.ensures.0;
      in_world = subst
          (λ (n : ℕ). IsInWorld n c.in-Some-place.at) c.world_side-side.ensures c.in-Some-place.ensures.1;
      before = block_clear_on (g.B.Blocks.seen c.args.store.now)
          (g.B.Blocks.seen c.loop-clear.store) c.args.level c.args.block c.args.course.now c.loop-clear.instant c.leaves-next.result c.loop-clear.cell c.in-Some.clear c.loop-clear.invariant.same c.in-Some.ensures.looks stays c.loop-clear.invariant.before;
      near = c.leaves-next.ensures.far;
      same = c.look.ensures.seen ∙ c.loop-clear.invariant.same;
      rests = g.met.B.Blocks.rests_on _ _ _ c.loop-clear.invariant.rests c.look.ensures.rests;
    }
