use Rattle.edit_stamp.proofs.TierLaws.{OverBefore}
use Rattle.edit_stamp.proofs.tiers.Tier.over.Given as goal

abbrev pub invariant-loop-n : goal.invariant-loop-n
invariant-loop-n l = OverBefore (record { size = l.size; words = l.words }) l.half l.over.items l.n
