use Rattle.std.proofs.Common.{ℕ, ◌<◌, ◌≡◌, get_or}
use Rattle.history_model.specs.declared.histories.Mark.{Mark}
use Rattle.world_core.proofs.logs.find_mark.Given as goal

abbrev pub invariant-loop-mark : goal.invariant-loop-mark
invariant-loop-mark l =
    (k : ℕ) (m : Mark) → k < l.mark-index → (get_or l.marks k m).version ≡ l.version → ⊥
