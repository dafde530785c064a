use Rattle.std.proofs.Common.{◌<◌, ◌≤◌, ℕ}
use Rattle.edit_stamp.specs.Drawings.{IsSameLeaf}
use Rattle.edit_stamp.proofs.scans.is_same_layer.Given as goal

abbrev pub invariant-loop-y : goal.invariant-loop-y
invariant-loop-y l =
    record {
      same : (x y : ℕ) → l.fn.leaves.from.x ≤ x → x < l.fn.leaves.to.x
          → l.fn.leaves.from.y ≤ y → y < l.y → IsSameLeaf l.size l.left l.right l.inside x y l.z;
    }
