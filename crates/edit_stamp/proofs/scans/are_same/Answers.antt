use Rattle.std.proofs.Common.{ℕ, refl}
use Rattle.edit_stamp.specs.Drawings.{IsSameLeaf}
use Rattle.edit_stamp.proofs.StampLaws.{one_more}
use Rattle.edit_stamp.proofs.scans.are_same.Goals as goal

pub loop-z-preserved : goal.loop-z-preserved
loop-z-preserved c = record {
  same = λ x y z p q r s le lt.
      one_more (λ (n : ℕ). IsSameLeaf c.args.size c.args.left.now c.args.right.now c.args.inside x y n)
      c.args.leaves.from.z c.loop-z.z z (λ m t u. c.loop-z.invariant.same x y m p q r s t u)
      (c.if-not-is_same_layer.ensures refl x y p q r s) le lt;
}
