use Rattle.std.proofs.Common.{◌≡◌, ◌<◌, ◌≤◌, ℕ, slice_index}
use Rattle.edit_stamp.specs.Drawings.{leaf_number}
use Rattle.edit_stamp.proofs.scans.are_all.Given as goal

abbrev pub invariant-loop-z : goal.invariant-loop-z
invariant-loop-z l =
    record {
      same : (x y z : ℕ) → l.fn.leaves.from.x ≤ x → x < l.fn.leaves.to.x
          → l.fn.leaves.from.y ≤ y → y < l.fn.leaves.to.y → l.fn.leaves.from.z ≤ z → z < l.z
          → slice_index l.words (leaf_number l.size x y z) ≡ l.want;
    }
