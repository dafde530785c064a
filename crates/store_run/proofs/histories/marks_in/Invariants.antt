use Rattle.std.proofs.Common.{◌≡◌}
use Rattle.core_laws.specs.contents.MarkLists.{marks_below}
use Rattle.store_run.specs.Kept.{mark_in}
use Rattle.store_run.proofs.histories.marks_in.Given as goal

abbrev pub invariant-loop-mark : goal.invariant-loop-mark
invariant-loop-mark l = l.list.items ≡ marks_below (mark_in l.marks) l.mark-index
