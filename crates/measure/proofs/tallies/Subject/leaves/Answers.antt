use Rattle.std.proofs.Common.{refl, ◌∙◌, arith}
use Rattle.measure.proofs.EightLeaves.{no_leaves, leaves_more, eight_long}
use Rattle.measure.proofs.tallies.Subject.leaves.Goals as goal

pub loop-octant-init : goal.loop-octant-init
loop-octant-init g c = record {
  leaves = λ test p. no_leaves _ test;
  long = refl;
  same = refl;
  rests = g.met.B.Blocks.rests_itself _;
}

pub loop-octant-preserved : goal.loop-octant-preserved
loop-octant-preserved g c =
    let place = c.from.ensures in
    record {
      leaves = λ test p. leaves_more g.Self.Subject.counts (g.B.Blocks.seen c.args.store.now)
          (g.B.Blocks.seen c.loop-octant.store) (g.B.Blocks.seen c.octant-subject.new.store)
          c.loop-octant.octant c.from.result c.leaf.result c.loop-octant.leaves c.args.self.now
          c.octant-subject.result test c.loop-octant.invariant.long c.loop-octant-test.true place
          c.loop-octant.invariant.same c.octant-subject.ensures.seen
          c.octant-subject.ensures.octant c.leaf.ensures.bits p
          (c.loop-octant.invariant.leaves test p);
      long = eight_long c.loop-octant.leaves c.from.result c.leaf.result
          c.loop-octant.invariant.long;
      same = c.leaf.ensures.seen ∙ c.octant-subject.ensures.seen ∙ c.loop-octant.invariant.same;
      rests = g.met.B.Blocks.rests_on _ _ _
          (g.met.B.Blocks.rests_on _ _ _ c.loop-octant.invariant.rests
          c.octant-subject.ensures.rests) c.leaf.ensures.rests;
    }
