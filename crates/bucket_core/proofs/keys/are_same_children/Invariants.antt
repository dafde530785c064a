use Rattle.std.proofs.Common.{◌≡◌, ℕ, ◌<◌}
use Rattle.node_words.specs.Held.{name_in}
use Rattle.bucket_core.proofs.keys.are_same_children.Given as goal

abbrev pub invariant-loop-k : goal.invariant-loop-k
invariant-loop-k l = (j : ℕ) → j < l.k → name_in l.a j ≡ name_in l.b j
