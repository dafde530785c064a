use Rattle.std.proofs.Common.{◌<◌, ◌≤◌, ℕ}
use Rattle.edit_stamp.specs.Drawings.{IsSameLeaf}
use Rattle.edit_stamp.proofs.scans.is_same_row.Given as goal

abbrev pub invariant-loop-x : goal.invariant-loop-x
invariant-loop-x l =
    record {
      same : (x : ℕ) → l.fn.leaves.from.x ≤ x → x < l.x
          → IsSameLeaf l.size l.left l.right l.inside x l.y l.z;
    }
