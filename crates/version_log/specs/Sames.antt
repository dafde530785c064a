-- Whether two versions are the same, and why nothing is told.
use Rattle.std.specs.Prelude.{◌≡◌, ◌≢◌, ◌↔◌, ◌⊎◌, ◌^◌, ◌<◌, ◌≤◌, ℕ, IsTrue}
use Rattle.std.specs.List.{Contains}
use Rattle.core_laws.specs.contents.Versions.{IsUnmarked, SameWorld}
use Rattle.table_rule.specs.LogFacts.{IsShownUnmarked, number_seen, seen_has}
use Rattle.table_rule.specs.Views.{SeatView}
use Rattle.retain.specs.declared.comparing.SameAt.{SameAt}
use Rattle.retain.specs.declared.comparing.SameRefused.{SameRefused}
use Rattle.retain.specs.declared.comparing.SameRefused.TheVariants.{NoVersion, Forgotten}
use Rattle.version_log.specs.Seeing.{HasSeenMark}

-- the version is there, has no mark in the log that is seen, and was found so at this length
pub record IsFoundOpen (x : SeatView) (version at : ℕ) : Type 0 where
  pub there : version ≤ at
  pub unmarked : IsUnmarked x.log.seen.marks version
  pub found : Contains x.log.found (record { version = version; at = at })

-- and the turn has shown it so
pub record IsShownOpen (x : SeatView) (version at : ℕ) : Type 0 where
  pub shown : IsShownUnmarked x version
  pub found : IsFoundOpen x version at

-- a look at this version leaves the length, and what was shown and found of other ones
pub record StaysFound (x z : SeatView) (version at : ℕ) : Type 0 where
  pub number : number_seen z ≡ at
  pub still : (u : ℕ) → IsShownUnmarked x u → IsShownUnmarked z u
  pub others : (u : ℕ) → u ≢ version → IsFoundOpen x u at → IsFoundOpen z u at

-- both versions are there without a mark, and the answer is whether their cells agree
pub record AnswersSame (v w : ℕ) (s : SameAt) (x : SeatView) : Type 0 where
  pub at : s.at ≡ number_seen x
  pub first : IsFoundOpen x v s.at
  pub second : IsFoundOpen x w s.at
  pub equal : IsTrue s.equal ↔ SameWorld (2 ^ x.plan.side) (seen_has x v) (seen_has x w)

-- why a look at a version is refused, at the length that is seen now
abbrev pub RefusesVersion : ℕ → SameRefused → SeatView → Type 0
RefusesVersion v (NoVersion at version) x = (at ≡ number_seen x) × (version ≡ v) × (at < v)
RefusesVersion v (Forgotten at mark) x = (at ≡ number_seen x) × HasSeenMark x v mark

-- the length that a refusal tells
abbrev pub length_told : SameRefused → ℕ
length_told (NoVersion at version) = at
length_told (Forgotten at mark) = at

-- the first version is refused, or it is there without a mark and the second one is
abbrev pub RefusesSame : ℕ → ℕ → SameRefused → SeatView → Type 0
RefusesSame v w e x =
    RefusesVersion v e x ⊎ (IsFoundOpen x v (length_told e) × RefusesVersion w e x)
