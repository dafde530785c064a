-- Going over the children of MAIN.
use Rattle.std.specs.Prelude.{◌≡◌, ℕ, ◌<◌, ◌≤◌, List, Option, Some, None, Result, Ok, Err}
use Rattle.vox_chunk.specs.declared.faults.VoxFault.{VoxFault}
use Rattle.vox_chunk.specs.declared.faults.VoxFault.TheVariants.{Truncated}
use Rattle.vox_chunk.specs.declared.chunks.Chunk.{Chunk}
use Rattle.vox_chunk.specs.Frames.{FrameFits, end_of, id_at, content_at}

-- the file, the place of the next child, and where the children end
pub record Cursor : Type 0 where
  pub bytes : List ℕ
  pub at : ℕ
  pub end : ℕ

-- the chunk is the one at this place
pub record IsChunk (bytes : List ℕ) (place : ℕ) (chunk : Chunk) : Type 0 where
  pub id : chunk.id ≡ id_at bytes place
  pub content : chunk.content.now ≡ content_at bytes place
  pub at : chunk.at ≡ place

-- what the next step over the children gives, and where it leads
abbrev pub Walks : Cursor → Option (Result Chunk VoxFault) → Cursor → Type 0
Walks old None new = (old.end ≤ old.at) × (new ≡ old)
Walks old (Some (Ok chunk)) new =
    (old.at < old.end) × FrameFits old.bytes old.end old.at × IsChunk old.bytes old.at chunk
    × (new ≡ record old { at = end_of old.bytes old.at })
Walks old (Some (Err fault)) new =
    (old.at < old.end) × (FrameFits old.bytes old.end old.at → ⊥) × (fault ≡ Truncated old.at)
    × (new ≡ record old { at = old.end })
