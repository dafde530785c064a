use Rattle.std.proofs.Common.{◌≡◌, ℕ, ◌<◌}
use Rattle.dag_file.specs.Places.{node_word_at}
use Rattle.dag_file.proofs.fields.sorts_before.Given as goal

abbrev pub invariant-loop-k : goal.invariant-loop-k
invariant-loop-k l =
    (j : ℕ) → j < l.k → node_word_at l.fn.bytes l.fn.a j ≡ node_word_at l.fn.bytes l.fn.b j
