use Rattle.std.proofs.Common.{◌-◌}
use Rattle.one_store.specs.entries.Rows.{AreEmptyRows}
use Rattle.one_store.proofs.entries.rows.empty_rows.Given as goal

abbrev pub invariant-loop-level : goal.invariant-loop-level
invariant-loop-level g l = AreEmptyRows l.buckets l.first (l.level - l.first) l.cap l.rows.items
