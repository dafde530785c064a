use Rattle.std.proofs.Common.{subst, List, ℕ}
use Rattle.edit_stamp.specs.Tiers.{TellsTier}
use Rattle.edit_stamp.proofs.TierLaws.{tells_on}
use Rattle.edit_stamp.proofs.stencils.with_tiers.Goals as goal

pub invariant_of-result : goal.invariant_of-result
invariant_of-result c =
    let first =
    subst (λ (words : List ℕ). TellsTier
    (record { size = c.args.size; words = words }) 1 c.in_ok-first.first) c.deref.ensures.value c.in_ok-first.ensures in
    let second = tells_on _ _ _ 1 first c.in_ok-second.ensures in
    let third = tells_on _ _ _ 2 second c.in_ok-third.ensures in
    let fourth = tells_on _ _ _ 3 third c.in_ok-fourth.ensures in
    let fifth = tells_on _ _ _ 4 fourth c.in_ok-fifth.ensures in
    let sixth = tells_on _ _ _ 5 fifth c.in_ok-sixth.ensures in (
      c.requires,
      record { in_first = first; in_second = second; in_third = third; in_fourth = fourth; in_fifth = fifth; in_sixth = sixth },
    )
