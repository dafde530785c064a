-- Where a way down to a cell of a block stands.
use Rattle.std.specs.Prelude.{◌≡◌, ℕ, ◌+◌, ◌-◌, ◌%◌, ◌<◌, ◌≤◌, List}
use Rattle.vw_cell.specs.declared.cells.Cell.{Cell}
use Rattle.vw_cell.specs.declared.boxes.Boxed.{Boxed}
use Rattle.vw_cell.specs.Places.{block_side, IsInWorld}
use Rattle.vw_cell.specs.Counts.{cell_at}
use Rattle.node_words.specs.shapes.Tree.{Tree, shape_of}
use Rattle.node_words.specs.descent.Roots.{IsBlockOf, IsOctantOf, cells_of}
use Rattle.node_words.specs.descent.Parts.{EndsBy, placed}
use Rattle.node_words.specs.declared.descent.landings.Landing.{Landing}

-- on no axis is a further than b
pub record IsAtMost (a b : Cell) : Type 0 where
  pub x : a.x ≤ b.x
  pub y : a.y ≤ b.y
  pub z : a.z ≤ b.z

-- the place of a cell in its block of a level, in a grid of such blocks
abbrev pub inner_place : ℕ → Cell → Cell
inner_place level c =
    cell_at (c.x % block_side level) (c.y % block_side level) (c.z % block_side level)

-- one octant of a block further down, with the same cell
pub record IsStepDown (held : List Tree) (at next : Landing) : Type 0 where
  pub octant : ℕ
  pub is : octant < 8
  pub level : next.level ≡ at.level - 1
  pub block : IsOctantOf held at.level at.block octant next.block
  pub inner : IsInWorld (block_side next.level) next.inner
  pub place : at.inner ≡ placed (block_side next.level) octant next.inner

-- the corner of the landing's block, and the block as a box, where the cell is c
abbrev pub corner_of : Cell → Landing → Cell
corner_of c at = cell_at (c.x - at.inner.x) (c.y - at.inner.y) (c.z - at.inner.z)

abbrev pub land_of : Cell → Landing → Boxed
land_of c at =
    record {
      at = corner_of c at;
      size = cell_at (block_side at.level) (block_side at.level) (block_side at.level);
    }

-- a place told from a corner
abbrev pub from_place : Cell → Cell → Cell
from_place corner p = cell_at (corner.x + p.x) (corner.y + p.y) (corner.z + p.z)

-- the landing's block lies in a block of level `top` whose tree is t, and shows its cells there
pub record LandsAt (held : List Tree) (top : ℕ) (c : Cell) (at : Landing) (t : Tree) : Type 0 where
  pub tree : Tree
  pub is_block : IsBlockOf held at.level at.block tree
  pub ends : EndsBy (block_side top) (land_of c at)
  pub shows : (p : Cell) → IsInWorld (block_side at.level) p
      → cells_of top (shape_of t) (from_place (corner_of c at) p)
      ≡ cells_of at.level (shape_of tree) p
