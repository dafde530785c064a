-- The blocks of a world that a box meets without holding them.
use Rattle.std.specs.Prelude.{ℕ, ◌+◌, ◌-◌, ◌*◌, Bool, nat_le, nat_lt, ◌&&◌, not}
use Rattle.std.proofs.Common.{zero, suc}
use Rattle.vw_cell.specs.declared.cells.Cell.{Cell}
use Rattle.vw_cell.specs.declared.boxes.Boxed.{Boxed}
use Rattle.vw_cell.specs.declared.blocks.Block.{Block}
use Rattle.node_words.specs.Sums.{one_if, sum_below}
use Rattle.vw_cell.specs.Counts.{cell_at}
use Rattle.vw_cell.specs.Places.{block_side, half_x, half_y, half_z}

-- two stretches of one axis have a number in common
abbrev pub touches_at : ℕ → ℕ → ℕ → ℕ → Bool
touches_at low size at side = nat_le 1 size && nat_lt at (low + size) && nat_lt low (at + side)

-- the first stretch has every number of the second
abbrev pub covers_at : ℕ → ℕ → ℕ → ℕ → Bool
covers_at low size at side = nat_le low at && nat_le (at + side) (low + size)

-- the box has a cell of the block, and doesn't hold the block
abbrev pub is_partly_at : Boxed → Block → Bool
is_partly_at b block =
    let side = block_side block.level in
    touches_at b.at.x b.size.x block.at.x side && touches_at b.at.y b.size.y block.at.y side
    && touches_at b.at.z b.size.z block.at.z side
    && not
    (covers_at b.at.x b.size.x block.at.x side && covers_at b.at.y b.size.y block.at.y side
    && covers_at b.at.z b.size.z block.at.z side)

-- the octant's least corner, for octants of this level of a block with this corner
abbrev pub corner : ℕ → Cell → ℕ → Cell
corner level at k =
    cell_at (at.x + half_x k * block_side level) (at.y + half_y k * block_side level)
    (at.z + half_z k * block_side level)

-- how many blocks the box meets without holding them, of the block of this level and corner and of
-- all blocks in it
unfoldable pub blocks_partly : ℕ → Boxed → Cell → ℕ
blocks_partly zero b at = one_if (is_partly_at b (record { level = 0; at = at }))
blocks_partly (suc level) b at =
    one_if (is_partly_at b (record { level = suc level; at = at })) + sum_below 8
    (λ k. blocks_partly level b (corner level at k))

-- the same of the whole world, whose side is a power of two
abbrev pub world_partly : ℕ → Boxed → ℕ
world_partly side b = blocks_partly (side - 2) b (cell_at 0 0 0)
