-- The cells of a block that are exposed towards one direction, by what stands in the block and in
-- the one beside it.
use Rattle.std.specs.Prelude.{◌≡◌, ℕ, ◌+◌, ◌-◌, ◌&&◌, not, nat_lt, if◌then◌else◌, Bool, true, false, Option, List}
use Rattle.std.proofs.Common.{zero, suc}
use Rattle.vw_cell.specs.declared.cells.Cell.{Cell}
use Rattle.vw_cell.specs.Counts.{cell_at}
use Rattle.vw_cell.specs.Places.{block_side, IsInWorld, half_x, half_y, half_z}
use Rattle.node_words.specs.declared.shapes.names.Name.{Name}
use Rattle.node_words.specs.shapes.Shape.{Shape, octant_shape}
use Rattle.node_words.specs.shapes.Tree.{Tree, shape_of, child_of}
use Rattle.node_words.specs.descent.Roots.{IsBlockOf, cells_of}
use Rattle.vw_cell.specs.declared.directions.Direction.{Direction}
use Rattle.vw_cell.specs.declared.directions.Direction.TheVariants.{LowX, HighX, LowY, HighY, LowZ, HighZ}

-- the place next to a cell lies in the same block of this side
abbrev pub is_inside : Direction → ℕ → Cell → Bool
is_inside LowX side c = nat_lt 0 c.x
is_inside HighX side c = nat_lt (c.x + 1) side
is_inside LowY side c = nat_lt 0 c.y
is_inside HighY side c = nat_lt (c.y + 1) side
is_inside LowZ side c = nat_lt 0 c.z
is_inside HighZ side c = nat_lt (c.z + 1) side

-- the place next to a cell, where it lies in the same block
abbrev pub next_place : Direction → Cell → Cell
next_place LowX c = cell_at (c.x - 1) c.y c.z
next_place HighX c = cell_at (c.x + 1) c.y c.z
next_place LowY c = cell_at c.x (c.y - 1) c.z
next_place HighY c = cell_at c.x (c.y + 1) c.z
next_place LowZ c = cell_at c.x c.y (c.z - 1)
next_place HighZ c = cell_at c.x c.y (c.z + 1)

-- where it lies in the block beside, told from that block's corner
abbrev pub place_beside : Direction → ℕ → Cell → Cell
place_beside LowX side c = cell_at (side - 1) c.y c.z
place_beside HighX side c = cell_at 0 c.y c.z
place_beside LowY side c = cell_at c.x (side - 1) c.z
place_beside HighY side c = cell_at c.x 0 c.z
place_beside LowZ side c = cell_at c.x c.y (side - 1)
place_beside HighZ side c = cell_at c.x c.y 0

-- the place next to a cell is set, in the block or in the one beside it
abbrev pub is_next_set : Direction → ℕ → Shape → Shape → Cell → Bool
is_next_set d level s beside c =
    if is_inside d (block_side level) c then cells_of level s (next_place d c)
    else cells_of level beside (place_beside d (block_side level) c)

-- the cell is set, and the place next to it isn't
abbrev pub exposed_of : Direction → ℕ → Shape → Shape → Cell → Bool
exposed_of d level s beside c = cells_of level s c && not (is_next_set d level s beside c)

-- the octant on the other side of the middle, for an octant of this half and for the step between
-- both halves
abbrev pub other_half : ℕ → ℕ → ℕ → ℕ
other_half zero step o = o + step
other_half (suc i) step o = o - step

abbrev pub is_low : ℕ → Bool
is_low zero = true
is_low (suc i) = false

-- the octant that has the places of an octant's further side in this direction
abbrev pub across : Direction → ℕ → ℕ
across LowX o = other_half (half_x o) 1 o
across HighX o = other_half (half_x o) 1 o
across LowY o = other_half (half_y o) 2 o
across HighY o = other_half (half_y o) 2 o
across LowZ o = other_half (half_z o) 4 o
across HighZ o = other_half (half_z o) 4 o

-- that octant is one of the same block
abbrev pub stays : Direction → ℕ → Bool
stays LowX o = not (is_low (half_x o))
stays HighX o = is_low (half_x o)
stays LowY o = not (is_low (half_y o))
stays HighY o = is_low (half_y o)
stays LowZ o = not (is_low (half_z o))
stays HighZ o = is_low (half_z o)

-- what stands beside an octant
abbrev pub beside_shape : Direction → Shape → Shape → ℕ → Shape
beside_shape d s beside o = octant_shape (if stays d o then s else beside) (across d o)

abbrev pub beside_tree : Direction → Tree → Tree → ℕ → Tree
beside_tree d t beside o = child_of (if stays d o then t else beside) (across d o)

-- the test passes the cells of a block that are exposed towards the block beside it
pub record PassesExposed (d : Direction) (held : List Tree) (level : ℕ) (block beside : Option Name)
    (test : Cell → Bool) : Type 0 where
  pub tree : Tree
  pub is_block : IsBlockOf held level block tree
  pub next : Tree
  pub is_beside : IsBlockOf held level beside next
  pub shows : (c : Cell) → IsInWorld (block_side level) c
      → test c ≡ exposed_of d level (shape_of tree) (shape_of next) c
