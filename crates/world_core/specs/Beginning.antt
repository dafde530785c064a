-- How a core begins.
use Rattle.std.specs.Prelude.{◌≡◌, ℕ, length}
use Rattle.node_words.specs.Plans.{Layout}
use Rattle.core_laws.specs.States.{State}
use Rattle.core_laws.specs.Soundness.{IsUntouched}

-- nothing was done yet, and there are so many sessions
pub record HasBegun (p : Layout) (sessions : ℕ) (state : State) : Type 0 where
  pub untouched : IsUntouched p state
  pub seats : length state.held ≡ sessions
