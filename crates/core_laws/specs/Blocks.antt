-- Which blocks the versions have, and how many of a level are different.
use Rattle.std.specs.Prelude.{Bool, ◌≡◌, ◌≢◌, ℕ, ◌<◌, Some, None, List, length, All}
use Rattle.std.specs.List.{AllPairs, Contains}
use Rattle.vw_cell.specs.Sums.{sum_below}
use Rattle.vw_cell.specs.declared.cells.Cell.{Cell}
use Rattle.vw_cell.specs.declared.blocks.Block.{Block}
use Rattle.core_laws.specs.Worlds.{World}
use Rattle.node_words.specs.declared.shapes.names.Name.{Name}
use Rattle.node_words.specs.shapes.Shape.{Shape, Clear, ShowsCells, IsCanonical}
use Rattle.node_words.specs.shapes.Tree.{shape_of}
use Rattle.node_words.specs.Plans.{Layout}
use Rattle.core_laws.specs.places.Names.{named}
use Rattle.core_laws.specs.places.WordIds.{buckets_at, versions}
use Rattle.core_laws.specs.contents.Aligned.{top, world_block, IsAligned}
use Rattle.core_laws.specs.contents.Contents.{HasCellIn}
use Rattle.core_laws.specs.States.{State, tree_at}
use Rattle.core_laws.specs.Counting.{if_live, holdings}

-- a version has a root, and the block is an aligned one of this level
pub record IsSite (p : Layout) (state : State) (level v : ℕ) (b : Block) : Type 0 where
  pub in_range : v < versions
  pub rooted : state.root v ≢ None
  pub aligned : IsAligned (world_block p.side) b
  pub same_level : b.level ≡ level

-- each root that is kept is of the top level and shows the cells of its version, or of its place
pub record RootsShow (p : Layout) (cells : ℕ → World) (state : State) : Type 0 where
  pub in_range : (v : ℕ) (n : Name) → state.root v ≡ Some n → v < versions
  pub level : (v : ℕ) (n : Name) → state.root v ≡ Some n → n.level ≡ top p.side
  pub shown : (v : ℕ) (n : Name) → state.root v ≡ Some n
      → ShowsCells (world_block p.side) (shape_of (tree_at state.key (top p.side) (Some n)))
      (cells v)

-- a block of this level of some version has just the cells of the shape
pub record ShowsSomeBlock (p : Layout) (cells : ℕ → World) (state : State) (level : ℕ)
    (s : Shape) : Type 0 where
  pub version : ℕ
  pub block : Block
  pub site : IsSite p state level version block
  pub shows : ShowsCells block s (cells version)

-- the list has a shape that shows the block's cells
pub record Lists (shapes : List Shape) (b : Block) (cells : Cell → Bool) : Type 0 where
  pub shape : Shape
  pub listed : Contains shapes shape
  pub shows : ShowsCells b shape cells

-- so many different blocks of this level with a set cell do the versions with a root have
pub record HasBlocks (p : Layout) (cells : ℕ → World) (state : State)
    (level number : ℕ) : Type 0 where
  pub shapes : List Shape
  pub as_many : length shapes ≡ number
  pub canonical : All (λ s. IsCanonical level s × (s ≢ Clear)) shapes
  pub different : AllPairs (λ s t. s ≢ t) shapes
  pub shown : All (ShowsSomeBlock p cells state level) shapes
  pub complete : (v : ℕ) (b : Block) → IsSite p state level v b → HasCellIn b (cells v)
      → Lists shapes b (cells v)

-- how many entries of a bucket are live, and of a level
abbrev pub live_in : Layout → State → ℕ → ℕ → ℕ
live_in p state level bucket =
    sum_below p.cap (λ slot. if_live (state.book (named level bucket slot)) 1)

abbrev pub live_number : Layout → State → ℕ → ℕ
live_number p state level = sum_below (buckets_at p level) (live_in p state level)

-- nobody holds a share
pub record IsIdle (state : State) : Type 0 where
  pub weighs : (f : Name → ℕ) → holdings f state.held ≡ 0
