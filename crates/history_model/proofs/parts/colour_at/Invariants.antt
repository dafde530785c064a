use Rattle.std.proofs.Common.{◌≡◌, take}
use Rattle.vox_read.specs.Contents.{colour_at}
use Rattle.history_model.proofs.parts.colour_at.Given as goal

abbrev pub invariant-loop-v : goal.invariant-loop-v
invariant-loop-v l = l.colour ≡ colour_at (take l.v-index l.voxels) l.p
