-- How the words of a layer's leaves are filled in, block by block.
use Rattle.std.specs.Prelude.{◌≡◌, ℕ, ◌+◌, ◌*◌, ◌<◌, ◌≤◌, ◌⊎◌, List, slice_index, Bool}
use Rattle.vw_cell.specs.declared.cells.Cell.{Cell}
use Rattle.vw_cell.specs.declared.boxes.Boxed.{Boxed}
use Rattle.vw_cell.specs.declared.blocks.Block.{Block}
use Rattle.vw_cell.specs.Places.{block_side, IsInBlock, Touches, octant_of}
use Rattle.node_words.specs.kernels.Leaves.{LeafShows}
use Rattle.extract.specs.Layers.{leaf_block, leaf_corner, leaves_in}

-- the block has a leaf of this layer of the box
pub record MeetsLayer (place : Block) (b : Boxed) (layer : ℕ) : Type 0 where
  pub x : Touches b.at.x b.size.x place.at.x (block_side place.level)
  pub y : Touches b.at.y b.size.y place.at.y (block_side place.level)
  pub z : (place.at.z ≤ 4 * layer) × (4 * layer < place.at.z + block_side place.level)

-- a word shows the leaf of its number
abbrev pub ShowsItsLeaf : Boxed → ℕ → (Cell → Bool) → List ℕ → ℕ → Type 0
ShowsItsLeaf b layer cells words m =
    LeafShows (slice_index words m) (leaf_block (leaf_corner b layer m)) cells

-- each word is 0 or shows its leaf
abbrev pub AreBegun : Boxed → ℕ → (Cell → Bool) → List ℕ → Type 0
AreBegun b layer cells words =
    (m : ℕ) → m < leaves_in b → (slice_index words m ≡ 0) ⊎ ShowsItsLeaf b layer cells words m

-- words that show their leaves still do, and those of these numbers do now
pub record Fills (which : ℕ → Type 0) (b : Boxed) (layer : ℕ) (cells : Cell → Bool)
    (old new : List ℕ) : Type 0 where
  pub begun : AreBegun b layer cells old → AreBegun b layer cells new
  pub keeps : (m : ℕ) → m < leaves_in b → ShowsItsLeaf b layer cells old m
      → ShowsItsLeaf b layer cells new m
  pub there : AreBegun b layer cells old → (m : ℕ) → m < leaves_in b → which m
      → ShowsItsLeaf b layer cells new m

-- the cell lies in one of the first octants
pub record IsInFirst (place : Block) (n : ℕ) (c : Cell) : Type 0 where
  pub octant : ℕ
  pub below : octant < n
  pub inside : IsInBlock (octant_of place octant) c
