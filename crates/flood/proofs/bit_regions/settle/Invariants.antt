use Rattle.std.proofs.Common.{◌+◌, ◌*◌, length}
use Rattle.flood.specs.Words.{room}
use Rattle.flood.proofs.ReachLaws.{Settling}
use Rattle.flood.proofs.bit_regions.settle.Given as goal

abbrev pub invariant-loop-w : goal.invariant-loop-w
invariant-loop-w l =
    record { settling : Settling l.fn.clear l.fn.reached l.reached l.fn.stack.items l.stack.items }

abbrev pub decreases-loop-w : goal.decreases-loop-w
decreases-loop-w l = 2 * room l.reached + length l.stack.items
