use Rattle.std.proofs.Common.{◌≡◌, ◌+◌, ◌*◌, ◌++◌, take, vec_len, vec_capacity}
use Rattle.std.specs.List.{flat_map}
use Rattle.vox_write.specs.Written.{voxel_bytes}
use Rattle.vox_write.proofs.writing.put_voxels.Given as goal

abbrev pub invariant-loop-voxel : goal.invariant-loop-voxel
invariant-loop-voxel l = record {
  items : l.into.items ≡ l.fn.into.items ++ flat_map voxel_bytes (take l.voxel-index l.voxels);
  len : vec_len l.into ≡ vec_len l.fn.into + 4 * l.voxel-index;
  capacity : vec_capacity l.into ≡ vec_capacity l.fn.into;
}
