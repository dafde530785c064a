use Rattle.std.proofs.Common.{◌≡◌, ◌+◌, ℕ, take, sum_by}
use Rattle.node_words.specs.declared.shapes.names.Name.{Name}
use Rattle.core_laws.specs.Counting.{weight}
use Rattle.world_core.proofs.holdings.with_names.Given as goal

abbrev pub invariant-loop-n : goal.invariant-loop-n
invariant-loop-n l =
    (f : Name → ℕ)
    → sum_by f l.names.items ≡ sum_by f l.initial.names.items + sum_by (weight f)
    (take l.n-index l.some)
