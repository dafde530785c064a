-- The number and the place of each refusal of a VOX file.
use Rattle.std.specs.Prelude.{ℕ}
use Rattle.vox_chunk.specs.declared.faults.VoxFault.{VoxFault}
use Rattle.vox_chunk.specs.declared.faults.VoxFault.TheVariants.{NotVox, Version, NoMain, Truncated, ShortSize, SizeRange, XyziWithoutSize, ShortXyzi, VoxelOutside, TooManyModels, Memory}

abbrev pub kind_of : VoxFault → ℕ
kind_of NotVox = 1
kind_of (Version version) = 2
kind_of NoMain = 3
kind_of (Truncated at) = 4
kind_of (ShortSize at) = 5
kind_of (SizeRange at) = 6
kind_of (XyziWithoutSize at) = 7
kind_of (ShortXyzi at) = 8
kind_of (VoxelOutside at) = 9
kind_of (TooManyModels at) = 10
kind_of Memory = 11

-- the byte position that a refusal names: that of a chunk's id, or of what the header lacks, and 0
-- where it names none
abbrev pub position_of : VoxFault → ℕ
position_of NotVox = 0
position_of (Version version) = 4
position_of NoMain = 8
position_of (Truncated at) = at
position_of (ShortSize at) = at
position_of (SizeRange at) = at
position_of (XyziWithoutSize at) = at
position_of (ShortXyzi at) = at
position_of (VoxelOutside at) = at
position_of (TooManyModels at) = at
position_of Memory = 0
