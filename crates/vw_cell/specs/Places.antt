-- What lies in a world, a box, a ball and an aligned block, as numbers axis by axis.
use Rattle.std.specs.Prelude.{ℕ, ◌+◌, ◌-◌, ◌*◌, ◌/◌, ◌%◌, ◌^◌, ◌<◌, ◌≤◌, nat_lt, nat_le, ◌&&◌, Bool}
use Rattle.std.specs.Int.{abs_diff}
use Rattle.vw_cell.specs.declared.cells.Cell.{Cell}
use Rattle.vw_cell.specs.declared.boxes.Boxed.{Boxed}
use Rattle.vw_cell.specs.declared.balls.Ball.{Ball}
use Rattle.vw_cell.specs.declared.blocks.Block.{Block}

-- p is one of the `size` numbers from `low` on
abbrev pub IsWithin : ℕ → ℕ → ℕ → Type 0
IsWithin low size p = (low ≤ p) × (p < low + size)

-- the cell lies in the world of this side
pub record IsInWorld (side : ℕ) (c : Cell) : Type 0 where
  pub x : c.x < side
  pub y : c.y < side
  pub z : c.z < side

-- the cell lies in the box
pub record IsInBox (b : Boxed) (c : Cell) : Type 0 where
  pub x : IsWithin b.at.x b.size.x c.x
  pub y : IsWithin b.at.y b.size.y c.y
  pub z : IsWithin b.at.z b.size.z c.z

-- the same as tests, for definitions that compute
abbrev pub is_within : ℕ → ℕ → ℕ → Bool
is_within low size p = nat_le low p && nat_lt p (low + size)

abbrev pub is_in_box : Boxed → Cell → Bool
is_in_box b c =
    is_within b.at.x b.size.x c.x && is_within b.at.y b.size.y c.y && is_within b.at.z b.size.z c.z

-- a stretch of one axis has a length, and ends in the world
abbrev pub Fits : ℕ → ℕ → ℕ → Type 0
Fits at size side = (1 ≤ size) × (at + size ≤ side)

-- the box of this place and size lies in the world of this side
pub record FitsAt (at size : Cell) (side : ℕ) : Type 0 where
  pub x : Fits at.x size.x side
  pub y : Fits at.y size.y side
  pub z : Fits at.z size.z side

abbrev pub square : ℕ → ℕ
square n = n * n

-- the squared distance of two cells
abbrev pub distance : Cell → Cell → ℕ
distance a b = square (abs_diff a.x b.x) + square (abs_diff a.y b.y) + square (abs_diff a.z b.z)

-- the cell lies in the ball
pub record IsInBall (ball : Ball) (c : Cell) : Type 0 where
  pub near : distance ball.centre c ≤ square ball.radius

abbrev pub is_in_ball : Ball → Cell → Bool
is_in_ball ball c = nat_le (distance ball.centre c) (square ball.radius)

-- the side of a block of this level, in cells
abbrev pub block_side : ℕ → ℕ
block_side level = 4 * 2 ^ level

-- the cell lies in the block
pub record IsInBlock (b : Block) (c : Cell) : Type 0 where
  pub x : IsWithin b.at.x (block_side b.level) c.x
  pub y : IsWithin b.at.y (block_side b.level) c.y
  pub z : IsWithin b.at.z (block_side b.level) c.z

-- the whole block lies in the world of this side
pub record LiesIn (side : ℕ) (b : Block) : Type 0 where
  pub x : b.at.x + block_side b.level ≤ side
  pub y : b.at.y + block_side b.level ≤ side
  pub z : b.at.z + block_side b.level ≤ side

-- some cell of the block is in the box
pub record Meets (a : Boxed) (b : Block) : Type 0 where
  pub cell : Cell
  pub in_block : IsInBlock b cell
  pub in_box : IsInBox a cell

-- every cell of the block is in the box
pub record HoldsBlock (a : Boxed) (b : Block) : Type 0 where
  pub each : (c : Cell) → IsInBlock b c → IsInBox a c

-- two stretches of one axis have a number in common
abbrev pub Touches : ℕ → ℕ → ℕ → ℕ → Type 0
Touches low size at side = (1 ≤ size) × (at < low + size) × (low < at + side)

-- the first stretch has every number of the second
abbrev pub Covers : ℕ → ℕ → ℕ → ℕ → Type 0
Covers low size at side = (low ≤ at) × (at + side ≤ low + size)

-- the three halves that an octant's number x + 2y + 4z names, each 0 or 1
abbrev pub half_x : ℕ → ℕ
half_x octant = octant % 2

abbrev pub half_y : ℕ → ℕ
half_y octant = octant / 2 % 2

abbrev pub half_z : ℕ → ℕ
half_z octant = octant / 4 % 2

-- an octant of a block: half as wide, at the half that its number names on each axis
abbrev pub octant_of : Block → ℕ → Block
octant_of b octant =
    let half = block_side (b.level - 1) in
    record {
      level = b.level - 1;
      at = record {
        x = b.at.x + half * half_x octant;
        y = b.at.y + half * half_y octant;
        z = b.at.z + half * half_z octant;
      };
    }

-- a cell has numbers of 16 bits
abbrev pub IsCell : Cell → Type 0
IsCell c = (c.x < 2 ^ 16) × (c.y < 2 ^ 16) × (c.z < 2 ^ 16)
