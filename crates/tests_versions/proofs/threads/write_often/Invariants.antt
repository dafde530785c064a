use Rattle.node_table.specs.Closing.{IsSpare}
use Rattle.tests_versions.proofs.threads.write_often.Given as goal

abbrev pub invariant-loop-line : goal.invariant-loop-line
invariant-loop-line g l = IsSpare l.table l.pass
