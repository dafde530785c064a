-- What the laws say of the numbers of live entries.
use Rattle.std.specs.Prelude.{◌≡◌, ℕ, ◌+◌, ◌<◌, ◌≤◌, List}
use Rattle.vw_cell.specs.Counts.{cell_at}
use Rattle.vw_cell.specs.Places.{block_side}
use Rattle.vw_cell.specs.declared.blocks.Block.{Block}
use Rattle.core_laws.specs.HistoryModelContents.{Content}
use Rattle.node_words.specs.shapes.Shape.{Shape, ShowsCells, has}
use Rattle.node_words.specs.Plans.{Layout}
use Rattle.core_laws.specs.places.WordIds.{levels}
use Rattle.core_laws.specs.Worlds.{World}
use Rattle.core_laws.specs.contents.Aligned.{world_block}
use Rattle.core_laws.specs.contents.Contents.{HasContents}
use Rattle.core_laws.specs.contents.Versions.{HoldsVersion}
use Rattle.core_laws.specs.States.{State}
use Rattle.core_laws.specs.Soundness.{SoundEntries, SoundVersions, Sound}
use Rattle.core_laws.specs.Blocks.{IsIdle, RootsShow, HasBlocks, live_number}
use Rattle.core_laws.specs.VersionStatements.{cells_at}

-- a shape that shows a block has its cells, each at its place from the block's corner
abbrev pub ShapesShowContents : Type 0
ShapesShowContents = (level : ℕ) (b : Block) (s : Shape) (w : World) → b.level ≡ level
    → ShowsCells b s w
    → (x y z : ℕ) → x < block_side level → y < block_side level → z < block_side level
    → has level s x y z ≡ w (cell_at (b.at.x + x) (b.at.y + y) (b.at.z + z))

-- where nobody holds a share, the live entries of a level are as many as the different blocks with
-- a set cell that the versions, or the places, with a root have
abbrev pub LiveEntriesAreBlocks : Type 0
LiveEntriesAreBlocks = (p : Layout) (cells : ℕ → World) (state : State) (level : ℕ)
    → SoundEntries p state
    → RootsShow p cells state → IsIdle state → level < levels p
    → HasBlocks p cells state level (live_number p state level)

-- the roots of a sound state show the cells of their versions
abbrev pub SoundRootsShow : Type 0
SoundRootsShow = (p : Layout) (models : List Content) (state : State) → SoundVersions p models state
    → RootsShow p (cells_at p models state) state

-- where nobody holds a share, the live entries of a level are as many as the different contents
-- with a set cell that the aligned blocks of the versions have which are kept
abbrev pub LiveEntriesAreContents : Type 0
LiveEntriesAreContents = (p : Layout) (models : List Content) (state : State) (level : ℕ)
    → 2 ≤ p.side
    → Sound p models state → IsIdle state → level < levels p
    → HasContents (world_block p.side) (cells_at p models state)
    (HoldsVersion state.log) level (live_number p state level)
