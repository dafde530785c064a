use Rattle.std.specs.Vec.Iter.{into_iter_len}
use Rattle.store_run.proofs.held_roots.HeldRoots.give_up.Given as goal

abbrev pub decreases-loop-item : goal.decreases-loop-item
decreases-loop-item l = into_iter_len l.roots
