use Rattle.std.proofs.Common.{◌≡◌, take}
use Rattle.vox_write.specs.Written.{chunks_length}
use Rattle.vox_write.proofs.writing.chunks_length.Given as goal

abbrev pub invariant-loop-model : goal.invariant-loop-model
invariant-loop-model l = l.length ≡ chunks_length (take l.model-index l.models)
