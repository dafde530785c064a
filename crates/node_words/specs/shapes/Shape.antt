-- What a block of voxels contains, and the cells that this sets.
use Rattle.std.specs.Prelude.{◌≡◌, ◌≢◌, ℕ, ◌+◌, ◌-◌, ◌*◌, ◌/◌, ◌%◌, ◌^◌, ◌<◌, ◌≤◌, Bool, true, ◌==◌}
use Rattle.std.proofs.Common.{zero, suc}
use Rattle.std.specs.Int.{bit_at}
use Rattle.vw_cell.specs.declared.cells.Cell.{Cell}
use Rattle.vw_cell.specs.declared.blocks.Block.{Block}
use Rattle.vw_cell.specs.Places.{block_side, IsInBlock}

-- no set cell, the 64 bits of a leaf, or what the eight octants contain
pub data Shape : Type 0 where
  Clear : Shape
  Leaf : (bits : ℕ) → Shape
  Branch : (a b c d e f g h : Shape) → Shape
  deriving Discrete as Shape-discrete

-- what an octant contains
abbrev pub octant_shape : Shape → ℕ → Shape
octant_shape (Branch a b c d e f g h) zero = a
octant_shape (Branch a b c d e f g h) (suc zero) = b
octant_shape (Branch a b c d e f g h) (suc (suc zero)) = c
octant_shape (Branch a b c d e f g h) (suc (suc (suc zero))) = d
octant_shape (Branch a b c d e f g h) (suc (suc (suc (suc zero)))) = e
octant_shape (Branch a b c d e f g h) (suc (suc (suc (suc (suc zero))))) = f
octant_shape (Branch a b c d e f g h) (suc (suc (suc (suc (suc (suc zero)))))) = g
octant_shape (Branch a b c d e f g h) (suc (suc (suc (suc (suc (suc (suc zero))))))) = h
octant_shape _ _ = Clear

-- the shape of eight octants
abbrev pub branch_of : (ℕ → Shape) → Shape
branch_of octants =
    Branch (octants 0) (octants 1) (octants 2) (octants 3) (octants 4) (octants 5) (octants 6)
    (octants 7)

-- the bits of a leaf, and none of anything else
abbrev pub bits_of : Shape → ℕ
bits_of (Leaf bits) = bits
bits_of _ = 0

-- the bit of a leaf that stands for the cell at (x, y, z) of its block
abbrev pub bit_number : ℕ → ℕ → ℕ → ℕ
bit_number x y z = x + 4 * y + 16 * z

-- the octant that has the cell at (x, y, z) of a block, for octants of this side
abbrev pub octant_number : ℕ → ℕ → ℕ → ℕ → ℕ
octant_number side x y z = x / side + 2 * (y / side) + 4 * (z / side)

-- whether the cell at (x, y, z) of a block of this level is set
unfoldable pub has : ℕ → Shape → ℕ → ℕ → ℕ → Bool
has zero s x y z = bit_at (bits_of s) (bit_number x y z) == 1
has (suc level) s x y z =
    has level (octant_shape s (octant_number (block_side level) x y z)) (x % block_side level)
    (y % block_side level) (z % block_side level)

-- two shapes of this level have the same cells
pub record SameCells (level : ℕ) (s t : Shape) : Type 0 where
  pub each : (x y z : ℕ) → x < block_side level → y < block_side level → z < block_side level
      → has level s x y z ≡ has level t x y z

-- some cell of the shape is set
pub record HasCell (level : ℕ) (s : Shape) : Type 0 where
  pub x : ℕ
  pub y : ℕ
  pub z : ℕ
  pub x_in : x < block_side level
  pub y_in : y < block_side level
  pub z_in : z < block_side level
  pub set : has level s x y z ≡ true

-- in this block of the world the shape sets just the cells that are set there
pub record ShowsCells (b : Block) (s : Shape) (cells : Cell → Bool) : Type 0 where
  pub each : (c : Cell) → IsInBlock b c
      → has b.level s (c.x - b.at.x) (c.y - b.at.y) (c.z - b.at.z) ≡ cells c

-- no set cell, or a leaf with a set cell
abbrev pub IsLeafShape : Shape → Type 0
IsLeafShape Clear = Unit {0}
IsLeafShape (Leaf bits) = (0 < bits) × (bits < 2 ^ 64)
IsLeafShape (Branch a b c d e f g h) = ⊥

-- no set cell, or a branch with an octant that isn't clear
abbrev pub IsBranchShape : Shape → Type 0
IsBranchShape Clear = Unit {0}
IsBranchShape (Leaf bits) = ⊥
IsBranchShape (Branch a b c d e f g h) =
    (k : ℕ) × (k < 8) × (octant_shape (Branch a b c d e f g h) k ≢ Clear)

-- at this level: no leaf of no cells, and no branch of no octants
unfoldable pub IsCanonical : ℕ → Shape → Type 0
IsCanonical zero s = IsLeafShape s
IsCanonical (suc level) s = IsBranchShape s × ((k : ℕ) → IsCanonical level (octant_shape s k))

-- p is s, an octant of s or a part of an octant; what is clear is part of nothing
pub data IsPart : Shape → Shape → Type 0 where
  whole : {s : Shape} → s ≢ Clear → IsPart s s
  within : {p s : Shape} (k : ℕ) → IsPart p (octant_shape s k) → IsPart p s

-- a shape that is canonical at some level up to this one
pub record IsCanonicalUpTo (level : ℕ) (s : Shape) : Type 0 where
  pub at : ℕ
  pub up_to : at ≤ level
  pub canonical : IsCanonical at s

-- a shape above the leaves
abbrev pub IsBranch : Shape → Type 0
IsBranch (Branch a b c d e f g h) = Unit {0}
IsBranch _ = ⊥
