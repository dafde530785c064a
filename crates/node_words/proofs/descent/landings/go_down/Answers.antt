use Rattle.std.proofs.Common.{◌∙◌, refl, arith}
use Rattle.node_words.proofs.OfDescent.LandLaws.{has_below, has_named, lands_from, lands_below, lands_nothing, lands_leaf, step_to}
use Rattle.node_words.proofs.descent.landings.go_down.Goals as goal

pub loop-at-init : goal.loop-at-init
loop-at-init g c = record {
  level = omega arith;
  lands = λ t o. lands_from _ c.args.level c.args.n c.args.c t c.requires.cell o;
  block = has_named _ c.args.level c.args.n c.requires.block;
  same = refl;
  rests = g.met.B.Blocks.rests_itself _;
}

pub loop-at-preserved : goal.loop-at-preserved
loop-at-preserved g c =
    let seen = g.B.Blocks.seen in
    let was = c.loop-at.invariant in
    let step =
    step_to (seen c.args.store.now)
    (seen c.loop-at.store) c.loop-at.at c.octant_of-octant.result
    (record { bucket = c.loop-at.bucket; level = c.loop-at.at; slot = c.loop-at.slot }) c.in-Some.m c.octant_name-child.result c.args.c
    was.same c.octant_of-octant.ensures.octant c.octant_of-octant.ensures.place was.block c.octant_name-child.ensures.octant c.in-Some.is in
    record {
      level = omega (arith, was.level);
      lands = λ t o. lands_below _ c.args.level c.loop-at.at _ _ c.args.c t (omega arith) step
          (was.lands t o);
      block = has_below _ _ _ step was.block;
      same = c.octant_name-child.ensures.seen ∙ was.same;
      rests = g.met.B.Blocks.rests_on _ _ _ was.rests c.octant_name-child.ensures.rests;
    }

pub returns-in-None-clause-lands : goal.returns-in-None-clause-lands
returns-in-None-clause-lands g c t o =
    let seen = g.B.Blocks.seen in
    let was = c.loop-at.invariant in
    lands_nothing (seen c.args.store.now)
    (seen c.loop-at.store) c.args.level c.loop-at.at c.octant_of-octant.result _ c.octant_name-child.result c.args.c c.place_in.result t
    was.same (omega arith) c.octant_of-octant.ensures.octant c.octant_of-octant.ensures.place c.octant_name-child.ensures.octant c.in-None.is c.place_in.ensures (was.lands t o)

pub returns-clause-lands : goal.returns-clause-lands
returns-clause-lands g c t o =
    lands_leaf _ c.args.level c.loop-at.at
    (record { bucket = c.loop-at.bucket; level = c.loop-at.at; slot = c.loop-at.slot }) c.args.c c.place_in-2.result t (omega arith) c.place_in-2.ensures (c.loop-at.invariant.lands t o)
