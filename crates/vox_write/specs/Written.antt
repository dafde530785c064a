-- The bytes of a VOX file. A number has four bytes, the lowest first.
use Rattle.std.specs.Prelude.{ℕ, ◌+◌, ◌*◌, List, [], ◌∷◌, ◌++◌, length, codes}
use Rattle.std.specs.List.{flat_map, sum_by}
use Rattle.vw_cell.specs.declared.cells.Cell.{Cell}
use Rattle.byteorder.specs.Endian.{little_bytes}
use Rattle.vox_read.specs.declared.voxels.Voxel.{Voxel}
use Rattle.vox_read.specs.Contents.{Content}

abbrev pub number_bytes : ℕ → List ℕ
number_bytes n = little_bytes 4 n

-- how a chunk begins: its id, the number of its content bytes, and that of its children's bytes
abbrev pub chunk_head : List ℕ → ℕ → ℕ → List ℕ
chunk_head id content children = id ++ number_bytes content ++ number_bytes children

abbrev pub size_bytes : Cell → List ℕ
size_bytes size = number_bytes size.x ++ number_bytes size.y ++ number_bytes size.z

abbrev pub voxel_bytes : Voxel → List ℕ
voxel_bytes v = v.x ∷ v.y ∷ v.z ∷ v.colour ∷ []

-- what stands before the voxels of a file: the mark, version 150, the chunk MAIN, whose children
-- are a SIZE and an XYZI of so many voxels, and in these the size and the number of the voxels
unfoldable pub file_front : Cell → ℕ → List ℕ
file_front size voxels =
    codes "VOX " ++ number_bytes 150 ++ chunk_head (codes "MAIN") 0 (40 + 4 * voxels)
    ++ chunk_head (codes "SIZE") 12 0 ++ size_bytes size
    ++ chunk_head (codes "XYZI") (4 + 4 * voxels) 0 ++ number_bytes voxels

-- the file of a model: its voxels in their order, each as four bytes
abbrev pub model_file : Content → List ℕ
model_file m = file_front m.size (length m.voxels) ++ flat_map voxel_bytes m.voxels

-- ---- a file of many models

-- the chunks of one of them: a SIZE, and an XYZI of its voxels in their order
unfoldable pub model_chunks : Content → List ℕ
model_chunks m = chunk_head (codes "SIZE") 12 0 ++ size_bytes m.size
    ++ chunk_head (codes "XYZI") (4 + 4 * length m.voxels) 0 ++ number_bytes (length m.voxels)
    ++ flat_map voxel_bytes m.voxels

abbrev pub chunks_length : List Content → ℕ
chunks_length models = sum_by (λ m. 40 + 4 * length m.voxels) models

-- the file of models in their order
unfoldable pub models_file : List Content → List ℕ
models_file models = codes "VOX " ++ number_bytes 150
    ++ chunk_head (codes "MAIN") 0 (chunks_length models) ++ flat_map model_chunks models
