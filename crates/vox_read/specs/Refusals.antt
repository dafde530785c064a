-- What a refusal says of a rule that was tested: that it is the one broken, and want of memory says
-- nothing.
use Rattle.std.specs.Prelude.{◌≡◌, ℕ, Bool, false, Option, Some}
use Rattle.vox_chunk.specs.declared.faults.VoxFault.{VoxFault}
use Rattle.vox_chunk.specs.declared.faults.VoxFault.TheVariants.{VoxelOutside, Memory}

abbrev pub SaysBroken : VoxFault → Option VoxFault → Type 0
SaysBroken Memory broken = Unit {0}
SaysBroken fault broken = broken ≡ Some fault

-- some voxel stands outside
abbrev pub SaysOutside : VoxFault → ℕ → Bool → Type 0
SaysOutside Memory place all_inside = Unit {0}
SaysOutside (VoxelOutside at) place all_inside = (at ≡ place) × (all_inside ≡ false)
SaysOutside _ place all_inside = ⊥
