use Rattle.std.proofs.Common.{All, vec_len}
use Rattle.node_table.specs.Closing.{IsSpare}
use Rattle.tests_versions.proofs.uniform.ended.Given as goal

abbrev pub invariant-loop-pass : goal.invariant-loop-pass
invariant-loop-pass l = All (IsSpare l.table) l.passes.items

abbrev pub decreases-loop-pass : goal.decreases-loop-pass
decreases-loop-pass l = vec_len l.passes
