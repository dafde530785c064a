-- What a copy makes of one block: cells taken from a cube of eight blocks, from an offset on.
use Rattle.std.specs.Prelude.{◌≡◌, ℕ, ◌+◌, ◌-◌, ◌*◌, ◌/◌, ◌%◌, ◌<◌, ◌≤◌, ◌==◌, ◌&&◌, ◌||◌, ◌⊎◌, Bool, true, false, if◌then◌else◌, Option, None, List}
use Rattle.std.proofs.Common.{suc}
use Rattle.vw_cell.specs.declared.cells.Cell.{Cell}
use Rattle.vw_cell.specs.declared.boxes.Boxed.{Boxed}
use Rattle.vw_cell.specs.Counts.{cell_at}
use Rattle.vw_cell.specs.declared.blocks.Block.{Block}
use Rattle.vw_cell.specs.Places.{block_side, is_in_box, half_x, half_y, half_z, HoldsBlock, Meets}
use Rattle.node_words.specs.declared.shapes.names.Name.{Name}
use Rattle.node_words.specs.shapes.Shape.{Shape, branch_of, has}
use Rattle.node_words.specs.shapes.Tree.{Tree, child_of, shape_of}
use Rattle.node_words.specs.Held.{name_in}
use Rattle.node_words.specs.descent.Roots.{IsBlockOf}
use Rattle.node_words.specs.contents.CellShapes.{Cells, SameIn}
use Rattle.edit_walk.specs.cells.Paints.{IsOld, old_lasts}
use Rattle.edit_walk.specs.cells.Tasks.{Lasts}
use Rattle.edit_walk.specs.cells.Worlds.{block_at_origin}
use Rattle.edit_copy.specs.declared.copies.CopyTask.{CopyTask}

-- the block of eight blocks side by side, in octant order
abbrev pub cube_of : (ℕ → Tree) → Shape
cube_of row = branch_of (λ j. shape_of (row j))

-- the cells before, with those of the box taken from a cube, from an offset on
abbrev pub moved : ℕ → Boxed → Cell → Shape → Cells → Cells
moved level part offset cube cells = λ x y z.
    if is_in_box part (cell_at x y z)
    then has (suc level) cube (x + offset.x) (y + offset.y) (z + offset.z) else cells x y z

-- an offset is of less than a block
pub record IsOffset (level : ℕ) (offset : Cell) : Type 0 where
  pub x : offset.x < block_side level
  pub y : offset.y < block_side level
  pub z : offset.z < block_side level

-- each name of a row is that of an old block of this level
pub record AreOld (base : List Tree) (level : ℕ) (row : ℕ → Tree)
    (names : List (Option Name)) : Type 0 where
  pub each : (j : ℕ) → j < 8 → IsOld base level (row j) (name_in names j)

-- over these trees the task makes a block of this level with these cells
pub record MakesCopy (task : CopyTask) (base : List Tree) (level : ℕ) (cells : Cells) : Type 0 where
  pub small : level ≤ 10
  pub offset : IsOffset level task.offset
  pub tree : Tree
  pub is_old : IsOld base level tree task.old
  pub row : ℕ → Tree
  pub sources : AreOld base level row task.sources
  pub shows : SameIn level cells
      (moved level task.part task.offset (cube_of row) (has level (shape_of tree)))

pub copy_lasts : Lasts MakesCopy
copy_lasts task base more level cells one k m = record {
  small = m.small;
  offset = m.offset;
  tree = m.tree;
  is_old = old_lasts base more level m.tree task.old one k m.is_old;
  row = m.row;
  sources = record {
    each = λ j l. old_lasts base more level (m.row j) (name_in task.sources j) one k
        (m.sources.each j l);
  };
  shows = m.shows;
}

-- in halves of blocks of this level: where an offset from a half begins, and what is left of it
abbrev pub step_at : ℕ → ℕ → ℕ → ℕ
step_at level half offset = (half * block_side level + offset) / block_side level

abbrev pub step_rest : ℕ → ℕ → ℕ → ℕ
step_rest level half offset = (half * block_side level + offset) % block_side level

-- the same on each axis, for an octant
abbrev pub begin_of : ℕ → ℕ → Cell → Cell
begin_of level k offset =
    cell_at (step_at level (half_x k) offset.x) (step_at level (half_y k) offset.y)
    (step_at level (half_z k) offset.z)

abbrev pub rest_of : ℕ → ℕ → Cell → Cell
rest_of level k offset =
    cell_at (step_rest level (half_x k) offset.x) (step_rest level (half_y k) offset.y)
    (step_rest level (half_z k) offset.z)

-- which of the eight blocks source j of the octant lies in, which octant of it that is, and its
-- tree
abbrev pub source_from : Cell → ℕ → ℕ
source_from at j = (at.x + half_x j) / 2 + 2 * ((at.y + half_y j) / 2) + 4 * ((at.z + half_z j) / 2)

abbrev pub source_octant : Cell → ℕ → ℕ
source_octant at j =
    (at.x + half_x j) % 2 + 2 * ((at.y + half_y j) % 2) + 4 * ((at.z + half_z j) % 2)

abbrev pub source_of : (ℕ → Tree) → Cell → ℕ → Tree
source_of row at j = child_of (row (source_from at j)) (source_octant at j)

-- source j is the farther one on an axis on which the offset is 0, so no cell is taken from it
abbrev pub is_unread_on : ℕ → ℕ → Bool
is_unread_on half offset = half == 1 && offset == 0

abbrev pub is_unread : Cell → ℕ → Bool
is_unread offset j =
    is_unread_on (half_x j) offset.x || is_unread_on (half_y j) offset.y || is_unread_on
    (half_z j) offset.z

-- the names of a row can be read, as those of blocks of this level
pub record AreBlocks (held : List Tree) (level : ℕ) (names : List (Option Name))
    (row : ℕ → Tree) : Type 0 where
  pub each : (j : ℕ) → j < 8 → IsBlockOf held level (name_in names j) (row j)

abbrev pub HoldsBlocks : List Tree → ℕ → List (Option Name) → Type 0
HoldsBlocks held level names = (row : ℕ → Tree) × AreBlocks held level names row

-- P of the trees of a row
abbrev pub ForBlocks : List Tree → ℕ → List (Option Name) → ((ℕ → Tree) → Type 0) → Type 0
ForBlocks held level names P = (row : ℕ → Tree) → AreBlocks held level names row → P row

-- the name is that of source j, or none where no cell is taken from it
pub record IsSource (held : List Tree) (level : ℕ) (row : ℕ → Tree) (at offset : Cell) (j : ℕ)
    (name : Option Name) : Type 0 where
  pub read : is_unread offset j ≡ false → IsBlockOf held level name (source_of row at j)
  pub unread : is_unread offset j ≡ true → name ≡ None

-- no cell is in the box
abbrev pub IsEmpty : Boxed → Type 0
IsEmpty part = (b : Block) → Meets part b → ⊥

-- the names are those of an octant's sources, or none where no cell is taken from them
abbrev pub AreTaken : List Tree → ℕ → (ℕ → Tree) → Cell → Cell → Boxed → List (Option Name)
    → Type 0
AreTaken held level row at offset part names =
    (IsEmpty part × ((j : ℕ) → j < 8 → name_in names j ≡ None))
    ⊎ ((j : ℕ) → j < 8 → IsSource held level row at offset j (name_in names j))

-- the name is that of what stands in a block of this level, or none where the box holds the whole
-- block
abbrev pub IsKeptOld : ℕ → Option Name → Boxed → Option Name → Type 0
IsKeptOld level below part name =
    (HoldsBlock part (block_at_origin level) × (name ≡ None)) ⊎ (name ≡ below)

-- where the sources of an octant begin: in the first three quarters, on each axis
pub record IsBegin (at : Cell) : Type 0 where
  pub x : at.x < 3
  pub y : at.y < 3
  pub z : at.z < 3
