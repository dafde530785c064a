use Rattle.std.specs.Ordering.{nat_cmp}
use Rattle.std.specs.BTreeMap.{get}
use Rattle.history_model.specs.Logs.{Log}
use Rattle.report.specs.Roots.{AreKeptRoots, RowsBefore}
use Rattle.report.proofs.rows.rows.Given as goal

abbrev pub invariant-loop-root : goal.invariant-loop-root
invariant-loop-root l =
    (log : Log) → AreKeptRoots log l.roots
    → RowsBefore log l.roots l.root-index l.rows.items (get nat_cmp l.firsts)
