use Rattle.node_table.specs.Closing.{IsSpare}
use Rattle.tests_versions.proofs.rows.wrong_of_compared.Given as goal

abbrev pub invariant-loop-k : goal.invariant-loop-k
invariant-loop-k g l = IsSpare l.table l.pass
