use Rattle.std.proofs.Common.{length}
use Rattle.vox_read.proofs.Grouping.{HasRead}
use Rattle.vox_read.proofs.fields.read_voxels.Given as goal

abbrev pub invariant-loop-rest : goal.invariant-loop-rest
invariant-loop-rest l = HasRead l.size l.voxels.items l.rest l.bytes

abbrev pub decreases-loop-rest : goal.decreases-loop-rest
decreases-loop-rest l = length l.rest
