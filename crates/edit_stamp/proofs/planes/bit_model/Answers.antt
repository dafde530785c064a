use Rattle.edit_stamp.proofs.BitLaws.{mapped_more, small_more}
use Rattle.edit_stamp.proofs.planes.bit_model.Goals as goal

pub loop-voxel-preserved : goal.loop-voxel-preserved
loop-voxel-preserved c = record {
  so_far = mapped_more c.args.bit c.deref-voxel-items.result.now c.loop-voxel.voxel-index
      (record { x = 0; y = 0; z = 0; colour = 0 }) c.with_bit.result c.loop-voxel.voxels.items _ c.loop-voxel-test.true c.loop-voxel.invariant.so_far c.in_ok-push.ensures.items c.with_bit.ensures.is;
  small = small_more c.deref-voxel-items.result.now c.loop-voxel.voxel-index
      (record { x = 0; y = 0; z = 0; colour = 0 }) c.loop-voxel-test.true c.loop-voxel.invariant.small c.with_bit.ensures.small;
}
