use Rattle.std.proofs.Common.{◌≡◌, ◌≤◌, take}
use Rattle.audit.specs.Counts.{number_by_hand}
use Rattle.audit.proofs.counts.by_hand.Given as goal

abbrev pub invariant-loop-mark : goal.invariant-loop-mark
invariant-loop-mark l =
    (l.number ≡ number_by_hand l.keep l.records (take l.mark-index l.marks))
    × (l.number ≤ l.mark-index)
