use Rattle.std.proofs.Common.{◌≡◌, ◌≤◌, ◌+◌, ◌^◌, take}
use Rattle.vox_write.specs.Written.{chunks_length}
use Rattle.vox_scene.proofs.scenes.is_short.Given as goal

abbrev pub invariant-loop-model : goal.invariant-loop-model
invariant-loop-model l = record {
  is : l.length ≡ 20 + chunks_length (take l.model-index l.models);
  short : l.length ≤ 2 ^ 28;
}
