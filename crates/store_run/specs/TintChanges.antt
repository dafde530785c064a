-- Where the tints of two worlds differ.
use Rattle.std.specs.Prelude.{ℕ, ◌+◌, ◌≤◌, ◌≡◌, ◌==◌, ◌||◌, zero, suc, min, max, Bool, false, not, Option, Some, None}
use Rattle.vw_cell.specs.declared.cells.Cell.{Cell}
use Rattle.vw_cell.specs.declared.boxes.Boxed.{Boxed}
use Rattle.vw_cell.specs.Extents.{IsExtent}
use Rattle.history_model.specs.Tints.{Tints}
use Rattle.store_run.specs.declared.stored_versions.Versions.{Versions}
use Rattle.store_run.specs.Kept.{tints_of}
use Rattle.store_run.specs.Steps.{side_of}

-- the cell hasn't one tint in both
abbrev pub tints_differ : Tints → Tints → Cell → Bool
tints_differ t u c = not (t c == u c)

-- the box is the least one of all cells whose tints differ in two versions; none where none do
abbrev pub DifferInTints : Versions → ℕ → ℕ → Option Boxed → Type 0
DifferInTints v a b found = IsExtent (side_of v) (tints_differ (tints_of v a) (tints_of v b)) found

-- the cell counts in some of the first n worlds
abbrev pub in_some : (ℕ → Cell → Bool) → ℕ → Cell → Bool
in_some worlds zero c = false
in_some worlds (suc n) c = worlds n c || in_some worlds n c

-- the least stretch of an axis that has two
pub record IsStretchOf (at size also long from wide : ℕ) : Type 0 where
  pub begins : from ≡ min at also
  pub ends : from + wide ≡ max (at + size) (also + long)

-- the least box that has two boxes
pub record HasBoth (a b least : Boxed) : Type 0 where
  pub x : IsStretchOf a.at.x a.size.x b.at.x b.size.x least.at.x least.size.x
  pub y : IsStretchOf a.at.y a.size.y b.at.y b.size.y least.at.y least.size.y
  pub z : IsStretchOf a.at.z a.size.z b.at.z b.size.z least.at.z least.size.z

-- the same of boxes that may not be there
abbrev pub IsJoined : Option Boxed → Option Boxed → Option Boxed → Type 0
IsJoined None b least = least ≡ b
IsJoined (Some a) None least = least ≡ Some a
IsJoined (Some a) (Some b) None = ⊥
IsJoined (Some a) (Some b) (Some least) = HasBoth a b least
