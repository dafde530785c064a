-- Where a ray is at each instant, axis by axis, and the first set cell that it meets.
use Rattle.std.specs.Prelude.{◌≡◌, ℕ, ◌+◌, ◌*◌, ◌^◌, ◌<◌, ◌≤◌, ◌⊎◌, Bool, true, false, Option, Some, None}
use Rattle.vw_cell.specs.declared.cells.Cell.{Cell}
use Rattle.vw_cell.specs.declared.boxes.Boxed.{Boxed}
use Rattle.vw_cell.specs.Places.{IsInWorld, IsInBox}
use Rattle.ray_walk.specs.declared.courses.Track.{Track}
use Rattle.ray_walk.specs.declared.courses.Course.{Course}

-- at instant k the track is in cell c: it began at `start`, and a cell is `unit` wide
abbrev pub IsTrackIn : Track → ℕ → ℕ → Type 0
IsTrackIn t k c =
    (t.unit * c + k * t.behind ≤ t.start + k * t.ahead)
    × (t.start + k * t.ahead < t.unit * c + t.unit + k * t.behind)

-- a track that goes one way at most, with small numbers
pub record IsTrack (t : Track) : Type 0 where
  pub some : 1 ≤ t.unit
  pub unit : t.unit ≤ 2 ^ 32
  pub start : t.start < 2 ^ 44
  pub ahead : t.ahead ≤ 1024
  pub behind : t.behind ≤ 1024
  pub one_way : (t.ahead ≡ 0) ⊎ (t.behind ≡ 0)

-- a course of three tracks, one of which moves
pub record IsCourse (r : Course) : Type 0 where
  pub x : IsTrack r.x
  pub y : IsTrack r.y
  pub z : IsTrack r.z
  pub moves : 1 ≤ r.x.ahead + r.x.behind + (r.y.ahead + r.y.behind) + (r.z.ahead + r.z.behind)

-- at instant k the course is in cell c
pub record IsCourseIn (r : Course) (k : ℕ) (c : Cell) : Type 0 where
  pub x : IsTrackIn r.x k c.x
  pub y : IsTrackIn r.y k c.y
  pub z : IsTrackIn r.z k c.z

-- before instant k no set cell of the world of this side is met
pub record CourseClearBefore (r : Course) (side : ℕ) (cells : Cell → Bool) (k : ℕ) : Type 0 where
  pub each : (j : ℕ) (c : Cell) → j < k → IsCourseIn r j c → IsInWorld side c → cells c ≡ false

-- c is the set cell that is met first
pub record CourseHits (r : Course) (side : ℕ) (cells : Cell → Bool) (c : Cell) : Type 0 where
  pub instant : ℕ
  pub at : IsCourseIn r instant c
  pub in_world : IsInWorld side c
  pub set : cells c ≡ true
  pub before : CourseClearBefore r side cells instant

-- no set cell is met
pub record CourseMisses (r : Course) (side : ℕ) (cells : Cell → Bool) : Type 0 where
  pub each : (k : ℕ) (c : Cell) → IsCourseIn r k c → IsInWorld side c → cells c ≡ false

-- the first set cell, or none
abbrev pub CourseMeets : Course → ℕ → (Cell → Bool) → Option Cell → Type 0
CourseMeets r side cells None = CourseMisses r side cells
CourseMeets r side cells (Some c) = CourseHits r side cells c

-- from instant k, and until the next, the track lies between two cells; and the next is later
pub record StaysUntil (t : Track) (low high k next : ℕ) : Type 0 where
  pub later : k < 2 ^ 45 → k < next
  pub above : (j : ℕ) → k ≤ j → j < next → t.unit * low + j * t.behind ≤ t.start + j * t.ahead
  pub below : (j : ℕ) → k ≤ j → j < next → t.start + j * t.ahead < t.unit * high + j * t.behind

-- at instant k the track isn't below the side, and never is again
pub record IsOut (t : Track) (side k : ℕ) : Type 0 where
  pub each : (j c : ℕ) → k ≤ j → IsTrackIn t j c → c < side → ⊥

-- a stretch ends in the greatest world
abbrev pub Ends : ℕ → ℕ → Type 0
Ends at size = at + size ≤ 4096

-- the course begins in the world of this side
pub record BeginsBelow (r : Course) (side : ℕ) : Type 0 where
  pub x : r.x.start < r.x.unit * side
  pub y : r.y.start < r.y.unit * side
  pub z : r.z.start < r.z.unit * side

-- from instant k until the next the course is in the box; and the next is later
pub record InBoxUntil (r : Course) (b : Boxed) (k next : ℕ) : Type 0 where
  pub later : k < next
  pub each : (j : ℕ) (c : Cell) → k ≤ j → j < next → IsCourseIn r j c → IsInBox b c

-- the distances gone at instant k are small numbers
pub record IsSmallAt (r : Course) (k : ℕ) : Type 0 where
  pub x : (k * r.x.ahead < 2 ^ 45) × (k * r.x.behind < 2 ^ 45)
  pub y : (k * r.y.ahead < 2 ^ 45) × (k * r.y.behind < 2 ^ 45)
  pub z : (k * r.z.ahead < 2 ^ 45) × (k * r.z.behind < 2 ^ 45)

-- at instant k and later the course isn't in the world of this side
pub record HasLeft (r : Course) (side k : ℕ) : Type 0 where
  pub each : (j : ℕ) (c : Cell) → k ≤ j → IsCourseIn r j c → IsInWorld side c → ⊥
