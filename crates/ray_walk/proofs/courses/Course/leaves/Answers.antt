use Rattle.std.proofs.Common.{arith}
use Rattle.ray_walk.proofs.TrackLaws.{in_box_until}
use Rattle.ray_walk.proofs.courses.Course.leaves.Goals as goal

pub returns-clause-within : goal.returns-clause-within
returns-clause-within c k c' at i small =
    let x = c.leaves-x.ensures.within k c'.x at.x i.x.0 i.x.1 in
    let y = c.leaves-y.ensures.within k c'.y at.y i.y.0 i.y.1 in
    let z = c.leaves-z.ensures.within k c'.z at.z i.z.0 i.z.1 in
    let lx = x.later small in
    let ly = y.later small in
    let lz = z.later small in
    in_box_until c.args.self.now c.args.b k _ _ _ c.min-2.result small x y z (omega arith)
    (omega arith) (omega arith) (omega arith)
