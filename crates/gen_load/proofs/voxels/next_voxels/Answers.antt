use Rattle.gen_load.proofs.Rows.{none_drawn, one_drawn}
use Rattle.gen_load.proofs.voxels.next_voxels.Goals as goal

pub loop-init : goal.loop-init
loop-init c =
    rw c.in_ok-voxels.ensures.items
    (none_drawn (record { x = 32; y = 32; z = 32 }) c.args.numbers.now)

pub loop-preserved : goal.loop-preserved
loop-preserved c =
    rw c.in_ok-push.ensures.items
    (one_drawn (record { x = 32; y = 32; z = 32 }) c.args.numbers.now c.loop.counter c.loop.voxels.items c.loop.numbers c.next_voxel.result c.next_voxel.new.numbers c.loop.invariant c.next_voxel.ensures.voxel c.next_voxel.ensures.inside c.next_voxel.ensures.state)
