-- How many different contents the aligned blocks of a level have, cell by cell.
use Rattle.std.specs.Prelude.{Bool, true, ◌≡◌, ℕ, ◌+◌, ◌<◌, List, length, All, slice_index_or}
use Rattle.std.specs.List.{AllPairs}
use Rattle.vw_cell.specs.declared.cells.Cell.{Cell}
use Rattle.vw_cell.specs.declared.blocks.Block.{Block}
use Rattle.vw_cell.specs.Counts.{cell_at}
use Rattle.vw_cell.specs.Places.{block_side, IsInBlock}
use Rattle.history_model.specs.Worlds.{World}
use Rattle.core_laws.specs.contents.Aligned.{IsAligned}

-- some cell of the block is set
pub record HasCellIn (b : Block) (cells : Cell → Bool) : Type 0 where
  pub at : Cell
  pub inside : IsInBlock b at
  pub set : cells at ≡ true

-- a block of a version
pub record Site : Type 0 where
  pub version : ℕ
  pub block : Block

-- the cell of a site at this place from its corner
abbrev pub cell_of : (ℕ → World) → Site → ℕ → ℕ → ℕ → Bool
cell_of cells s x y z =
    cells s.version (cell_at (s.block.at.x + x) (s.block.at.y + y) (s.block.at.z + z))

-- the two sites of this level have the same content: cells at the same places are alike
pub record SameContent (level : ℕ) (cells : ℕ → World) (s t : Site) : Type 0 where
  pub each : (x y z : ℕ) → x < block_side level → y < block_side level → z < block_side level
      → cell_of cells s x y z ≡ cell_of cells t x y z

-- an aligned block of this level of the whole, with a set cell, of a version that is there
pub record IsFilled (whole : Block) (cells : ℕ → World) (IsThere : ℕ → Type 0) (level : ℕ)
    (s : Site) : Type 0 where
  pub there : IsThere s.version
  pub aligned : IsAligned whole s.block
  pub same_level : s.block.level ≡ level
  pub some : HasCellIn s.block (cells s.version)

-- one of the sites has the same content
pub record HasSame (level : ℕ) (cells : ℕ → World) (sites : List Site) (s : Site) : Type 0 where
  pub at : ℕ
  pub below : at < length sites
  pub same : SameContent level cells s (slice_index_or sites at s)

-- the filled blocks of this level have so many different contents
pub record HasContents (whole : Block) (cells : ℕ → World) (IsThere : ℕ → Type 0)
    (level number : ℕ) : Type 0 where
  pub sites : List Site
  pub as_many : length sites ≡ number
  pub filled : All (IsFilled whole cells IsThere level) sites
  pub different : AllPairs (λ s t. ¬ SameContent level cells s t) sites
  pub complete : (s : Site) → IsFilled whole cells IsThere level s → HasSame level cells sites s
