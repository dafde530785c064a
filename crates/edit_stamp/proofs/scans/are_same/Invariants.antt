use Rattle.std.proofs.Common.{◌<◌, ◌≤◌, ℕ}
use Rattle.edit_stamp.specs.Drawings.{IsSameLeaf}
use Rattle.edit_stamp.proofs.scans.are_same.Given as goal

abbrev pub invariant-loop-z : goal.invariant-loop-z
invariant-loop-z l =
    record {
      same : (x y z : ℕ) → l.fn.leaves.from.x ≤ x → x < l.fn.leaves.to.x
          → l.fn.leaves.from.y ≤ y → y < l.fn.leaves.to.y → l.fn.leaves.from.z ≤ z → z < l.z
          → IsSameLeaf l.size l.left l.right l.inside x y z;
    }
