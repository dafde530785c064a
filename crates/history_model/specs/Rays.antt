-- A ray from the centre of a cell by whole steps, and the first set cell that it meets.
use Rattle.std.specs.Prelude.{◌≡◌, ℕ, ◌+◌, ◌*◌, ◌<◌, ◌≤◌, max, ℤ, Bool, true, false, Option, Some, None}
use Rattle.vw_cell.specs.declared.cells.Cell.{Cell}
use Rattle.vw_cell.specs.Places.{IsInWorld}
use Rattle.history_model.specs.Ways.{Heading, ahead, behind}

-- the size of a step that isn't 0
abbrev pub factor : ℤ → ℕ
factor d = max 1 (ahead d + behind d)

-- twice the product of the sizes of the steps that aren't 0
abbrev pub scale : Heading → ℕ
scale h = 2 * (factor h.dx * (factor h.dy * factor h.dz))

-- c is (l (2 o + 1) + k d) / 2 l, rounded down: the place on one axis at instant k of a ray that
-- begins at the centre of cell o and goes by steps of d, where an instant is 1 / 2 l of the time of
-- a whole step
abbrev pub Passes : ℕ → ℕ → ℤ → ℕ → ℕ → Type 0
Passes l o d k c =
    (2 * l * c + k * behind d ≤ l * (2 * o + 1) + k * ahead d)
    × (l * (2 * o + 1) + k * ahead d < 2 * l * c + 2 * l + k * behind d)

-- at instant k the ray from the centre of a cell is in cell c
pub record IsAt (from : Cell) (h : Heading) (k : ℕ) (c : Cell) : Type 0 where
  pub x : Passes (scale h) from.x h.dx k c.x
  pub y : Passes (scale h) from.y h.dy k c.y
  pub z : Passes (scale h) from.z h.dz k c.z

-- before instant k the ray meets no set cell of a world of this side
pub record ClearBefore (from : Cell) (h : Heading) (side : ℕ) (cells : Cell → Bool)
    (k : ℕ) : Type 0 where
  pub each : (j : ℕ) (c : Cell) → j < k → IsAt from h j c → IsInWorld side c → cells c ≡ false

-- c is set, and there is no set cell at an earlier instant
pub record IsHit (from : Cell) (h : Heading) (side : ℕ) (cells : Cell → Bool)
    (c : Cell) : Type 0 where
  pub instant : ℕ
  pub at : IsAt from h instant c
  pub in_world : IsInWorld side c
  pub set : cells c ≡ true
  pub before : ClearBefore from h side cells instant

-- at no instant does the ray meet a set cell
pub record HasNoHit (from : Cell) (h : Heading) (side : ℕ) (cells : Cell → Bool) : Type 0 where
  pub each : (k : ℕ) (c : Cell) → IsAt from h k c → IsInWorld side c → cells c ≡ false

-- the set cell that the ray meets first, none where it meets none
abbrev pub Hits : Cell → Heading → ℕ → (Cell → Bool) → Option Cell → Type 0
Hits from h side cells None = HasNoHit from h side cells
Hits from h side cells (Some c) = IsHit from h side cells c
