use Rattle.std.proofs.Common.{◌≡◌, ◌+◌, ◌/◌, ◌<◌, ℕ, slice_index, length}
use Rattle.vw_cell.specs.Places.{half_x, half_y, half_z}
use Rattle.edit_stamp.specs.Drawings.{IsWord}
use Rattle.edit_stamp.proofs.stencils.Stencil.leaf_bits.Given as goal

abbrev pub invariant-loop-j : goal.invariant-loop-j
invariant-loop-j l = record {
  leaves : (n : ℕ) → n < l.j
      → IsWord l.self (l.x / 4 + half_x n) (l.y / 4 + half_y n) (l.z / 4 + half_z n)
      (slice_index l.leaves n);
  long : length l.leaves ≡ 8;
}
