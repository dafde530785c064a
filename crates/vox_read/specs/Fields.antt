-- The fields of a SIZE and of an XYZI chunk, and the rules that they keep. A number has four bytes,
-- the lowest first.
use Rattle.std.specs.Prelude.{ℕ, ◌+◌, ◌*◌, ◌&&◌, Bool, if◌then◌else◌, List, [], ◌∷◌, length, take, drop, Option, Some, None, nat_lt, nat_le}
use Rattle.std.specs.List.{list_all}
use Rattle.vw_cell.specs.declared.cells.Cell.{Cell}
use Rattle.vox_chunk.specs.declared.faults.VoxFault.{VoxFault}
use Rattle.vox_chunk.specs.declared.faults.VoxFault.TheVariants.{ShortSize, SizeRange, XyziWithoutSize, ShortXyzi, VoxelOutside, TooManyModels}
use Rattle.vox_chunk.specs.Frames.{number_at}
use Rattle.vox_read.specs.declared.voxels.Voxel.{Voxel}

-- a size that a model can have: from 1 to 256 on each axis
abbrev pub is_extent : ℕ → Bool
is_extent n = nat_le 1 n && nat_le n 256

abbrev pub is_size : Cell → Bool
is_size size = is_extent size.x && (is_extent size.y && is_extent size.z)

-- the size that a SIZE's content gives
abbrev pub size_in : List ℕ → Cell
size_in content =
    record { x = number_at content 0; y = number_at content 4; z = number_at content 8 }

-- the rule that a SIZE breaks
abbrev pub size_fault : ℕ → List ℕ → Option VoxFault
size_fault place content =
    if nat_lt (length content) 12 then Some (ShortSize place)
    else (if is_size (size_in content) then None else Some (SizeRange place))

-- the voxels of these bytes, four bytes each
unfoldable pub voxels_of : List ℕ → List Voxel
voxels_of (x ∷ y ∷ z ∷ colour ∷ rest) =
    record { x = x; y = y; z = z; colour = colour } ∷ voxels_of rest
voxels_of _ = []

-- the voxels that an XYZI's content gives: their number, and then they themselves
abbrev pub voxels_in : List ℕ → List Voxel
voxels_in content = voxels_of (take (4 * number_at content 0) (drop 4 content))

abbrev pub holds_its_voxels : List ℕ → Bool
holds_its_voxels content =
    nat_le 4 (length content) && nat_le (4 + 4 * number_at content 0) (length content)

-- the voxel stands inside a model of this size, whatever its colour
abbrev pub is_voxel_in : Cell → Voxel → Bool
is_voxel_in size v = nat_lt v.x size.x && (nat_lt v.y size.y && nat_lt v.z size.z)

-- the rule that the voxels of a model of this size break
abbrev pub voxels_fault : ℕ → Cell → List ℕ → Option VoxFault
voxels_fault place size content =
    if holds_its_voxels content
    then (if list_all (is_voxel_in size) (voxels_in content) then None
    else Some (VoxelOutside place))
    else Some (ShortXyzi place)

-- the rule that an XYZI breaks, with the size that waits for it and the number of models before it
abbrev pub xyzi_fault : Option Cell → ℕ → ℕ → List ℕ → Option VoxFault
xyzi_fault None models place content = Some (XyziWithoutSize place)
xyzi_fault (Some size) models place content =
    if nat_le 1024 models then Some (TooManyModels place) else voxels_fault place size content
