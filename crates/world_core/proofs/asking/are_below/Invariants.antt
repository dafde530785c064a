use Rattle.std.proofs.Common.{ℕ, ◌<◌, ◌≡◌, ◌+◌, Some}
use Rattle.node_words.specs.declared.shapes.names.Name.{Name}
use Rattle.node_words.specs.Held.{name_in}
use Rattle.world_core.proofs.asking.are_below.Given as goal

abbrev pub invariant-loop-k : goal.invariant-loop-k
invariant-loop-k l =
    (j : ℕ) (n : Name) → j < l.k → name_in l.children j ≡ Some n → n.level + 1 ≡ l.level
