use Rattle.std.proofs.Common.{◌≡◌, ◌<◌, ◌^◌, All, map, take}
use Rattle.edit_stamp.specs.Drawings.{with_bit}
use Rattle.edit_stamp.proofs.planes.bit_model.Given as goal

abbrev pub invariant-loop-voxel : goal.invariant-loop-voxel
invariant-loop-voxel l = record {
  so_far : l.voxels.items ≡ map (with_bit l.bit) (take l.voxel-index l.voxel-items);
  small : All (λ v. v.colour < 2 ^ 8) (take l.voxel-index l.voxel-items);
}
