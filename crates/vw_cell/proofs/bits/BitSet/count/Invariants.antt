use Rattle.std.proofs.Common.{◌≡◌, ◌≤◌, ◌-◌}
use Rattle.vw_cell.specs.Bits.{number_set}
use Rattle.vw_cell.proofs.bits.BitSet.count.Given as goal

abbrev pub invariant-loop-at : goal.invariant-loop-at
invariant-loop-at l =
    (l.from ≤ l.at) × (l.at ≤ l.to) × (l.set ≡ number_set l.self l.from l.at)
    × (l.set ≤ l.at - l.from)

abbrev pub decreases-loop-at : goal.decreases-loop-at
decreases-loop-at l = l.to - l.at
