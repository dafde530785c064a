-- What the children of MAIN say, by their places. Child i stands at `place_of bytes first i`, where
-- the first one stands at `first`.
use Rattle.std.specs.Prelude.{ℕ, zero, suc, Bool, if◌then◌else◌, List, [], ◌∷◌, ◌++◌, length, codes, Option, Some, None}
use Rattle.std.specs.Str.{bytes_eq}
use Rattle.vw_cell.specs.declared.cells.Cell.{Cell}
use Rattle.vox_chunk.specs.declared.faults.VoxFault.{VoxFault}
use Rattle.vox_chunk.specs.Frames.{id_at, content_at, place_of}
use Rattle.vox_read.specs.Contents.{Content}
use Rattle.vox_read.specs.Fields.{size_in, size_fault, voxels_in, xyzi_fault}

abbrev pub is_size_id : List ℕ → Bool
is_size_id id = bytes_eq id (codes "SIZE")

abbrev pub is_xyzi_id : List ℕ → Bool
is_xyzi_id id = bytes_eq id (codes "XYZI")

-- the size that waits behind a chunk: a SIZE's own, none behind an XYZI, and behind any other that
-- which waited before
abbrev pub waiting_behind : List ℕ → List ℕ → Option Cell → Option Cell
waiting_behind id content before =
    if is_size_id id then Some (size_in content) else (if is_xyzi_id id then None else before)

-- the size that waits at child i: that of the last SIZE before it with no XYZI between
abbrev pub waiting_at : List ℕ → ℕ → ℕ → Option Cell
waiting_at bytes first zero = None
waiting_at bytes first (suc i) =
    waiting_behind (id_at bytes (place_of bytes first i))
    (content_at bytes (place_of bytes first i)) (waiting_at bytes first i)

-- the model of a chunk: an XYZI's voxels, with the size that waits for them
abbrev pub model_with : Option Cell → List ℕ → List Content
model_with None content = []
model_with (Some size) content = record { size = size; voxels = voxels_in content } ∷ []

abbrev pub models_in : List ℕ → List ℕ → Option Cell → List Content
models_in id content waiting = if is_xyzi_id id then model_with waiting content else []

-- the models of the children before child i
abbrev pub models_before : List ℕ → ℕ → ℕ → List Content
models_before bytes first zero = []
models_before bytes first (suc i) =
    models_before bytes first i ++ models_in (id_at bytes (place_of bytes first i))
    (content_at bytes (place_of bytes first i)) (waiting_at bytes first i)

-- the rule of its fields that a chunk breaks: only SIZE and XYZI have any
abbrev pub fields_fault : Option Cell → ℕ → List ℕ → List ℕ → ℕ → Option VoxFault
fields_fault waiting models id content place =
    if is_size_id id then size_fault place content
    else (if is_xyzi_id id then xyzi_fault waiting models place content else None)

-- the rule of its fields that child i breaks
abbrev pub child_fault : List ℕ → ℕ → ℕ → Option VoxFault
child_fault bytes first i =
    fields_fault (waiting_at bytes first i) (length (models_before bytes first i))
    (id_at bytes (place_of bytes first i)) (content_at bytes (place_of bytes first i))
    (place_of bytes first i)
