-- What an edit starts from and what it leaves, in the words of worlds.
use Rattle.std.specs.Prelude.{◌≡◌, ◌↔◌, ℕ, ◌+◌, ◌-◌, Bool, false, Option, Some, None, List}
use Rattle.vw_cell.specs.declared.cells.Cell.{Cell}
use Rattle.vw_cell.specs.declared.blocks.Block.{Block}
use Rattle.vw_cell.specs.Counts.{cell_at}
use Rattle.vw_cell.specs.Places.{IsInBlock}
use Rattle.node_words.specs.declared.shapes.names.Name.{Name}
use Rattle.node_words.specs.shapes.Shape.{Shape, IsCanonical, ShowsCells}
use Rattle.node_words.specs.shapes.Tree.{Tree, root_of, shape_of, IsTreeAt}
use Rattle.node_words.specs.shapes.Weights.{weigh, weight_of}
use Rattle.node_words.specs.Held.{StoreState, IsHeld}
use Rattle.node_words.specs.contents.CellShapes.{Cells, shape_with}

-- the block of this level at the origin, which is the whole world where the level is the root's
abbrev pub block_at_origin : ℕ → Block
block_at_origin level = record { level = level; at = cell_at 0 0 0 }

-- the cells of a world, by their places
abbrev pub world_cells : (Cell → Bool) → Cells
world_cells world = λ x y z. world (cell_at x y z)

-- the cells of a world from a place on, by their places from there
abbrev pub cells_from : Cell → (Cell → Bool) → Cells
cells_from at world = λ x y z. world (cell_at (at.x + x) (at.y + y) (at.z + z))

-- the canonical shape of a world whose root is of this level
abbrev pub world_shape : ℕ → (Cell → Bool) → Shape
world_shape level world = shape_with level (world_cells world)

-- t is the tree of a root of this level that is held, or of no node
pub record IsRoot (held : List Tree) (level : ℕ) (t : Tree) (name : Option Name) : Type 0 where
  pub root : root_of t ≡ name
  pub is_held : (n : Name) → name ≡ Some n → IsHeld held t
  pub at : (n : Name) → name ≡ Some n → n.level ≡ level

-- a root of this level is held that shows the cells of this world, or it is none and the world is
-- empty
pub record ShowsWorld (held : List Tree) (level : ℕ) (root : Option Name)
    (world : Cell → Bool) : Type 0 where
  pub tree : Tree
  pub is_root : IsRoot held level tree root
  pub shows : ShowsCells (block_at_origin level) (shape_of tree) world

-- P of what an edit makes of each world that the root shows, the world's side being a power of two
abbrev pub ForEdited : StoreState → ℕ → Option Name → ((Cell → Bool) → Cell → Bool)
    → ((Cell → Bool) → Type 0) → Type 0
ForEdited seen side root edit P =
    (before : Cell → Bool) → ShowsWorld seen.held (side - 2) root before → P (edit before)

-- no cell of the world is set
abbrev pub IsEmptyWorld : ℕ → (Cell → Bool) → Type 0
IsEmptyWorld level world = (c : Cell) → IsInBlock (block_at_origin level) c → world c ≡ false

-- besides what was held there is a share of the canonical root of this world, or there is none and
-- the world is empty
pub record Rebuilt (level : ℕ) (world : Cell → Bool) (name : Option Name)
    (old new : StoreState) : Type 0 where
  pub tree : Tree
  pub root : root_of tree ≡ name
  pub levels : IsTreeAt level tree
  pub shows : ShowsCells (block_at_origin level) (shape_of tree) world
  pub canonical : IsCanonical level (shape_of tree)
  pub none : (name ≡ None) ↔ IsEmptyWorld level world
  pub weighs : (f : Tree → ℕ) → weigh f new.held ≡ weight_of f tree + weigh f old.held
