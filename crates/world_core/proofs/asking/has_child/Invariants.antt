use Rattle.std.proofs.Common.{ℕ, ◌<◌, ◌≡◌, None}
use Rattle.node_words.specs.Held.{name_in}
use Rattle.world_core.proofs.asking.has_child.Given as goal

abbrev pub invariant-loop-k : goal.invariant-loop-k
invariant-loop-k l = (j : ℕ) → j < l.k → name_in l.children j ≡ None
