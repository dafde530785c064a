-- What a root shows of the world, and what stands in a block at or below it.
use Rattle.std.specs.Prelude.{◌≡◌, ℕ, ◌-◌, Option, Some, Bool, List, MatchOption, ⊤}
use Rattle.vw_cell.specs.declared.cells.Cell.{Cell}
use Rattle.node_words.specs.declared.shapes.names.Name.{Name}
use Rattle.vw_cell.specs.declared.boxes.Boxed.{Boxed}
use Rattle.vw_cell.specs.Places.{block_side}
use Rattle.vw_cell.specs.Counts.{number_in}
use Rattle.node_words.specs.shapes.Shape.{Shape, has, octant_shape}
use Rattle.node_words.specs.shapes.Tree.{Tree, root_of, child_of, shape_of}
use Rattle.node_words.specs.Held.{IsReached, HoldsName}
use Rattle.node_words.specs.descent.Parts.{part_in}

-- the set cells of what stands in a block of this level, each told by its place from the block's
-- corner
abbrev pub cells_of : ℕ → Shape → Cell → Bool
cells_of level s c = has level s c.x c.y c.z

-- how many cells of a box's part in an octant are set
abbrev pub octant_count : ℕ → Shape → Boxed → ℕ → ℕ
octant_count level s b k =
    number_in (part_in (block_side (level - 1)) b k) (cells_of (level - 1) (octant_shape s k))

-- t is the tree of a block of this level: of a node that is reached, or of none
pub record IsBlockOf (held : List Tree) (level : ℕ) (name : Option Name) (t : Tree) : Type 0 where
  pub root : root_of t ≡ name
  pub reached : (n : Name) → name ≡ Some n → IsReached held t
  pub of_level : (n : Name) → name ≡ Some n → n.level ≡ level

-- the node may be read, where there is one, and is of this level
pub record HasBlock (held : List Tree) (level : ℕ) (name : Option Name) : Type 0 where
  pub tree : Tree
  pub is_block : IsBlockOf held level name tree

-- the name stands in this octant of the block
abbrev pub IsOctantOf : List Tree → ℕ → Option Name → ℕ → Option Name → Type 0
IsOctantOf held level block k child =
    (t : Tree) → IsBlockOf held level block t → IsBlockOf held (level - 1) child (child_of t k)

-- P of what stands in the block
abbrev pub ForBlock : List Tree → ℕ → Option Name → (Shape → Type 0) → Type 0
ForBlock held level name P = (t : Tree) → IsBlockOf held level name t → P (shape_of t)

-- the root of a world of this side, a power of two, is held, where it isn't the empty world's
abbrev pub HoldsRoot : List Tree → ℕ → Option Name → Type 0
HoldsRoot held side root = MatchOption root ⊤ (λ n. HoldsName held n × (n.level ≡ side - 2))

-- P of the set cells of the root's world
abbrev pub ForWorld : List Tree → ℕ → Option Name → ((Cell → Bool) → Type 0) → Type 0
ForWorld held side root P = ForBlock held (side - 2) root (λ s. P (cells_of (side - 2) s))
