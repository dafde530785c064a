use Rattle.std.proofs.Common.{ℕ, ◌<◌, get_or}
use Rattle.node_words.specs.declared.shapes.names.Name.{Name}
use Rattle.core_laws.specs.States.{IsUnder}
use Rattle.world_core.specs.Kept.{stored}
use Rattle.world_core.specs.Stored.{stored_state}
use Rattle.world_core.proofs.parts.Parts.reaches.Given as goal

abbrev pub invariant-loop-over : goal.invariant-loop-over
invariant-loop-over l =
    (j : ℕ) (d : Name) → j < l.over-index
    → IsUnder (stored_state (stored l.self)).key l.n (get_or l.held j d) → ⊥
