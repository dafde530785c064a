use Rattle.std.proofs.Common.{◌≡◌, ◌<◌, ◌≤◌, ℕ, slice_index}
use Rattle.edit_stamp.specs.Drawings.{leaf_number}
use Rattle.edit_stamp.proofs.scans.is_row.Given as goal

abbrev pub invariant-loop-x : goal.invariant-loop-x
invariant-loop-x l =
    record {
      same : (x : ℕ) → l.fn.leaves.from.x ≤ x → x < l.x
          → slice_index l.words (leaf_number l.size x l.y l.z) ≡ l.want;
    }
