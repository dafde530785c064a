use Rattle.std.proofs.Common.{◌≡◌, ◌<◌, ◌≤◌, ℕ, slice_index}
use Rattle.edit_stamp.specs.Drawings.{leaf_number}
use Rattle.edit_stamp.proofs.scans.is_layer.Given as goal

abbrev pub invariant-loop-y : goal.invariant-loop-y
invariant-loop-y l =
    record {
      same : (x y : ℕ) → l.fn.leaves.from.x ≤ x → x < l.fn.leaves.to.x
          → l.fn.leaves.from.y ≤ y → y < l.y → slice_index l.words (leaf_number l.size x y l.z)
          ≡ l.want;
    }
