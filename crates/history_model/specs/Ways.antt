-- The steps of a ray.
use Rattle.std.specs.Prelude.{ℕ, ◌+◌, ◌≤◌, ℤ, pos, negsuc}

-- the steps that a ray takes on the three axes
pub record Heading : Type 0 where
  pub dx : ℤ
  pub dy : ℤ
  pub dz : ℤ

abbrev pub heading_of : ℤ → ℤ → ℤ → Heading
heading_of dx dy dz = record { dx = dx; dy = dy; dz = dz }

-- how far a step goes towards higher places, and how far towards lower
abbrev pub ahead : ℤ → ℕ
ahead (pos n) = n
ahead (negsuc n) = 0

abbrev pub behind : ℤ → ℕ
behind (pos n) = 0
behind (negsuc n) = n + 1

-- a step is from -1,024 to 1,024
pub record IsStep (d : ℤ) : Type 0 where
  pub ahead : ahead d ≤ 1024
  pub behind : behind d ≤ 1024

-- such steps, not all of which are 0
pub record IsHeading (h : Heading) : Type 0 where
  pub dx : IsStep h.dx
  pub dy : IsStep h.dy
  pub dz : IsStep h.dz
  pub some : 1 ≤ ahead h.dx + behind h.dx + (ahead h.dy + behind h.dy) + (ahead h.dz + behind h.dz)
