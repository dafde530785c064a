use Rattle.std.proofs.Common.{◌≡◌, ◌+◌, ◌++◌, take, vec_len, vec_capacity}
use Rattle.std.specs.List.{flat_map}
use Rattle.vox_write.specs.Written.{model_chunks, chunks_length}
use Rattle.vox_write.proofs.writing.put_chunks.Given as goal

abbrev pub invariant-loop-model : goal.invariant-loop-model
invariant-loop-model l = record {
  items : l.into.items ≡ l.fn.into.items ++ flat_map model_chunks (take l.model-index l.models);
  len : vec_len l.into ≡ vec_len l.fn.into + chunks_length (take l.model-index l.models);
  capacity : vec_capacity l.into ≡ vec_capacity l.fn.into;
}
