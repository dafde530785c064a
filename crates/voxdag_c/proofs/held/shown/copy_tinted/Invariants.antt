use lib.Seq.{paste}
use Rattle.std.proofs.Common.{◌≡◌, ℕ, length}
use Rattle.std.specs.Prelude.{map}
use Rattle.vox_read.specs.declared.voxels.Voxel.{Voxel}
use Rattle.voxdag_c.specs.held.Places.{shown_by}
use Rattle.voxdag_c.proofs.held.shown.copy_tinted.Given as goal

abbrev pub invariant-loop-i : goal.invariant-loop-i
invariant-loop-i l = record {
  long : length l.out ≡ length l.initial.out;
  puts : (f : Voxel → ℕ) → l.tints ≡ map f l.voxels
      → l.out ≡ paste l.initial.out 0 (map (shown_by f) l.voxels) l.i;
}
