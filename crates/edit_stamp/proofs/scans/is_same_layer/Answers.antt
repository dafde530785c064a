use Rattle.std.proofs.Common.{ℕ, refl}
use Rattle.edit_stamp.specs.Drawings.{IsSameLeaf}
use Rattle.edit_stamp.proofs.StampLaws.{one_more}
use Rattle.edit_stamp.proofs.scans.is_same_layer.Goals as goal

pub loop-y-preserved : goal.loop-y-preserved
loop-y-preserved c = record {
  same = λ x y p q r lt.
      one_more (λ (n : ℕ). IsSameLeaf c.args.size c.args.left.now c.args.right.now c.args.inside x n c.args.z)
      c.args.leaves.from.y c.loop-y.y y (λ m s t. c.loop-y.invariant.same x m p q s t)
      (c.if-not-is_same_row.ensures refl x p q) r lt;
}
