use Rattle.std.proofs.Common.{take}
use Rattle.vox_read.specs.Marks.{Marks}
use Rattle.vox_read.proofs.counting.mark_cells.Given as goal

abbrev pub invariant-loop-voxel : goal.invariant-loop-voxel
invariant-loop-voxel l = Marks l.size (take l.voxel-index l.model.voxels) l.bits l.cells
