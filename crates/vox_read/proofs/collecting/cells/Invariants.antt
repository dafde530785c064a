use Rattle.std.proofs.Common.{take}
use Rattle.vox_read.proofs.Gathering.{Collects}
use Rattle.vox_read.proofs.collecting.cells.Given as goal

abbrev pub invariant-loop-voxel : goal.invariant-loop-voxel
invariant-loop-voxel l =
    Collects l.size l.model.voxels (take l.voxel-index l.model.voxels) l.marked.bits l.cells.items
