use Rattle.std.proofs.Common.{ℕ, ◌<◌, ◌≤◌, get_or}
use Rattle.history_model.specs.declared.histories.Mark.{Mark}
use Rattle.world_core.proofs.logs.place_in.Given as goal

abbrev pub invariant-loop-at : goal.invariant-loop-at
invariant-loop-at l = (k : ℕ) (m : Mark) → k < l.at → (get_or l.marks k m).version ≤ l.version
