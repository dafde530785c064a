use Rattle.std.proofs.Common.{◌≡◌, ◌<◌, ℕ, None}
use Rattle.node_words.specs.Held.{name_in}
use Rattle.edit_walk.proofs.blocks.blocks.are_none.Given as goal

abbrev pub invariant-loop-k : goal.invariant-loop-k
invariant-loop-k l = record { none : (j : ℕ) → j < l.k → name_in l.children j ≡ None }
