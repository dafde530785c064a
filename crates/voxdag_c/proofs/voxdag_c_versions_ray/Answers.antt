use Rattle.voxdag_c.proofs.Through.{through_reads}
use Rattle.voxdag_c.proofs.OfHeld.FileAsks.{file_by_steps}
use Rattle.voxdag_c.proofs.voxdag_c_versions_ray.Goals as goal

pub returns-in-Some : goal.returns-in-Some
returns-in-Some c =
    through_reads _ _ _ _ c.in-Some.held.value c.deref.result.now _ c.in-Some.ensures.taken c.deref.ensures
    c.put.ensures
    (file_by_steps c.args.dx c.args.dy c.args.dz c.ranges.dx c.ranges.dy c.ranges.dz c.ray-status.ensures)
