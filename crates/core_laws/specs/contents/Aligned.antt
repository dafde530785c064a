-- The aligned blocks of a world, and where they lie.
use Rattle.std.specs.Prelude.{◌≡◌, ℕ, ◌-◌, ◌*◌, ◌^◌, ◌<◌, ◌≤◌}
use Rattle.vw_cell.specs.declared.blocks.Block.{Block}
use Rattle.vw_cell.specs.Counts.{cell_at}
use Rattle.vw_cell.specs.Places.{block_side, octant_of}

-- the level of the block that is the whole world, whose side is 2 ^ side
abbrev pub top : ℕ → ℕ
top side = side - 2

-- the block that is the whole world
abbrev pub world_block : ℕ → Block
world_block side = record { level = top side; at = cell_at 0 0 0 }

-- an aligned block of a whole one: itself, or an octant of an aligned block
pub data IsAligned (whole : Block) : Block → Type 0 where
  itself : IsAligned whole whole
  octant : {b : Block} (k : ℕ) → k < 8 → 1 ≤ b.level → IsAligned whole b
      → IsAligned whole (octant_of b k)

-- the block of this level at these multiples of its side
abbrev pub block_at : ℕ → ℕ → ℕ → ℕ → Block
block_at level i j k =
    record {
      level = level;
      at = cell_at (i * block_side level) (j * block_side level) (k * block_side level);
    }

-- the block is one of its level in the world of this side
pub record HasPlace (side : ℕ) (b : Block) : Type 0 where
  pub i : ℕ
  pub j : ℕ
  pub k : ℕ
  pub same : b ≡ block_at b.level i j k
  pub low : b.level ≤ top side
  pub x : i < 2 ^ (top side - b.level)
  pub y : j < 2 ^ (top side - b.level)
  pub z : k < 2 ^ (top side - b.level)
