-- What it is to have pinned a version, and what a pin answers.
use Rattle.std.specs.Prelude.{◌≡◌, ◌<◌, ◌≤◌, ℕ, Option, Some, None}
use Rattle.std.specs.List.{Contains}
use Rattle.core_laws.specs.contents.Versions.{IsUnmarked}
use Rattle.table_rule.specs.Views.{SeatView}
use Rattle.table_rule.specs.LogFacts.{number_seen, seen_has}
use Rattle.version_log.specs.declared.answers.Pinned.{Pinned}
use Rattle.retain.specs.declared.refusals.PinRefused.{PinRefused}
use Rattle.retain.specs.declared.refusals.PinRefused.TheVariants.{NoVersion, Forgotten}
use Rattle.version_log.specs.Roots.{HoldsRootOf, GetsRoot}
use Rattle.version_log.specs.Seeing.{HasSeenMark}

-- the pass has pinned this, and not yet given it back: at the moment, which it has seen, it found
-- the version without a mark, and it holds the root of the version's cells
pub record IsPinned (v : SeatView) (p : Pinned) : Type 0 where
  pub version : p.version ≤ p.moment
  pub moment : p.moment ≤ number_seen v
  pub found : Contains v.log.found (record { version = p.version; at = p.moment })
  pub root : HoldsRootOf v p.root (seen_has v p.version)

-- the version that is asked for at this length: the head, where none is named
abbrev pub version_asked : Option ℕ → ℕ → ℕ
version_asked None at = at
version_asked (Some version) at = version

-- the version was pinned at the length that is seen now; it has no mark
pub record PinsVersion (v : SeatView) (asked : Option ℕ) (p : Pinned) (w : SeatView) : Type 0 where
  pub moment : p.moment ≡ number_seen w
  pub version : p.version ≡ version_asked asked p.moment
  pub unmarked : IsUnmarked w.log.seen.marks p.version
  pub pinned : IsPinned w p
  pub gains : GetsRoot v.held p.root w.held

-- why nothing was pinned: at the length that is seen now there is no such version, or it has a mark
abbrev pub RefusesPin : Option ℕ → PinRefused → SeatView → Type 0
RefusesPin asked (NoVersion at) w = (at ≡ number_seen w) × (at < version_asked asked at)
RefusesPin asked (Forgotten at mark) w =
    (at ≡ number_seen w) × HasSeenMark w (version_asked asked at) mark
