-- Part A of the rule for the log: its turn, and what is known under it.
use Rattle.std.specs.Prelude.{◌≡◌, ℕ, ◌≤◌, true, Some, List}
use Rattle.core_laws.specs.places.WordIds.{WordId, Sessions, LogTurn, LogLength, Version}
use Rattle.table_rule.specs.Views.{SeatView, known_at, Each}
use Rattle.table_rule.specs.TurnRules.{IsTurnWord}

-- the word is one of the log's
abbrev pub IsOfLog : WordId → Type 0
IsOfLog LogLength = Unit {0}
IsOfLog (Version v i) = Unit {0}
IsOfLog _ = ⊥

-- a view has the log's turn exactly where the turn's word is marked by it, and what it knows of the
-- log's words is what they are
pub record KeepsLogTurn (mem : WordId → ℕ) (views : List SeatView) : Type 0 where
  pub turn : Each views (λ seat v. v.log.turn ≡ true → IsTurnWord v (mem LogTurn))
  pub back : Each views (λ seat v. IsTurnWord v (mem LogTurn) → v.log.turn ≡ true)
  pub named : mem LogTurn ≤ mem Sessions
  pub known : Each views (λ seat v. (x : WordId) (n : ℕ) → v.log.turn ≡ true → IsOfLog x
      → known_at x v.log.words ≡ Some n → mem x ≡ n)
