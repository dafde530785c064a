use Rattle.voxdag_c.proofs.Through.{by_steps, through_asks}
use Rattle.voxdag_c.proofs.voxdag_c_ray.Goals as goal

pub returns-in-Some : goal.returns-in-Some
returns-in-Some c =
    through_asks _ _ _ _ _ c.deref_mut.result.now _ _ c.in-Some.ensures.taken c.deref_mut.ensures.value c.put.ensures c.ray-status.ensures.same
    (by_steps c.args.dx c.args.dy c.args.dz c.ranges.dx c.ranges.dy c.ranges.dz c.ray-status.ensures.asks)
