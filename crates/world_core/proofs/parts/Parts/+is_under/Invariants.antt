use Rattle.std.proofs.Common.{ℕ, ◌<◌, ◌≡◌, Some}
use Rattle.node_words.specs.declared.shapes.names.Name.{Name}
use Rattle.node_words.specs.Held.{name_in}
use Rattle.core_laws.specs.States.{IsUnder}
use Rattle.world_core.specs.Kept.{stored}
use Rattle.world_core.specs.Stored.{stored_state}
use Rattle.world_core.proofs.parts.Parts.+is_under.Given as goal

abbrev pub decreases-is_under : goal.decreases-is_under
decreases-is_under l = l.level

abbrev pub invariant-loop-k : goal.invariant-loop-k
invariant-loop-k l =
    (j : ℕ) (child : Name) → j < l.k → name_in l.children j ≡ Some child
    → IsUnder (stored_state (stored l.self)).key l.m child → ⊥
