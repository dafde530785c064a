use Rattle.std.proofs.Common.{◌≤◌, ◌-◌}
use Rattle.vw_cell.specs.Bits.{PutsRange}
use Rattle.vw_cell.proofs.bits.BitSet.put_range.Given as goal

abbrev pub invariant-loop-at : goal.invariant-loop-at
invariant-loop-at l =
    (l.from ≤ l.at) × (l.at ≤ l.to)
    × PutsRange l.from l.at l.value l.fn.self l.self-inside.words.items

abbrev pub decreases-loop-at : goal.decreases-loop-at
decreases-loop-at l = l.to - l.at
