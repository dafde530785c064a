-- What the laws of this crate say.
use Rattle.std.specs.Prelude.{◌≡◌, ◌≢◌, ℕ, ◌+◌, ◌^◌, ◌<◌, ◌≤◌, Option, List, length}
use Rattle.std.specs.List.{AllPairs}
use Rattle.vw_cell.specs.declared.blocks.Block.{Block}
use Rattle.vw_cell.specs.declared.cells.Cell.{Cell}
use Rattle.vw_cell.specs.Places.{IsInBlock, IsInWorld}
use Rattle.history_model.specs.declared.histories.Mark.{Mark}
use Rattle.history_model.specs.declared.histories.Record.{Record}
use Rattle.history_model.specs.Logs.{MayFollowFrom}
use Rattle.history_model.specs.Positions.{Position}
use Rattle.core_laws.specs.contents.Aligned.{top, world_block, IsAligned, block_at, HasPlace}
use Rattle.core_laws.specs.contents.MarkLists.{marks_below, AreOfVersions, GetsMark}
use Rattle.core_laws.specs.contents.Versions.{InsertsMark, IsUnmarked}

-- a block at multiples of its side is aligned, where it lies in the world
abbrev pub AlignedByMultiples : Type 0
AlignedByMultiples = (side up level i j k : ℕ) → level + up ≡ top side → i < 2 ^ up → j < 2 ^ up
    → k < 2 ^ up
    → IsAligned (world_block side) (block_at level i j k)

-- an aligned block lies at multiples of its side
abbrev pub AlignedHavePlaces : Type 0
AlignedHavePlaces = (side : ℕ) (b : Block) → IsAligned (world_block side) b → HasPlace side b

-- the cells of an aligned block are cells of the world
abbrev pub AlignedLieInWorld : Type 0
AlignedLieInWorld = (side : ℕ) (b : Block) (q : Cell) → 2 ≤ side → IsAligned (world_block side) b
    → IsInBlock b q
    → IsInWorld (2 ^ side) q

-- marks by rising version rise still when one comes
abbrev pub MarksAreInOrder : Type 0
MarksAreInOrder = (old new : List Mark) (mark : Mark) → InsertsMark old mark new
    → AllPairs (λ a b. a.version < b.version) old → AllPairs (λ a b. a.version < b.version) new

-- a mark that is dated at the last record or later forgets no version that a record went back to
abbrev pub MarksDateTheNewest : Type 0
MarksDateTheNewest =
    (old new : List Mark) (mark : Mark) (n : ℕ) (at : Position) (records : List Record)
    → InsertsMark old mark new → n + length records ≤ mark.at + 1 → MayFollowFrom old n at records
    → MayFollowFrom new n at records

-- a version other than the mark's has no mark afterwards just where it had none
abbrev pub MarksAddOne : Type 0
MarksAddOne = (old new : List Mark) (mark : Mark) (v : ℕ) → InsertsMark old mark new
    → v ≢ mark.version
    → (IsUnmarked old v → IsUnmarked new v) × (IsUnmarked new v → IsUnmarked old v)

-- where a look-up gets a mark, the list that it gives gets it in its place
abbrev pub MarksComeByVersion : Type 0
MarksComeByVersion = (old new : ℕ → Option Mark) (mark : Mark) (n : ℕ) → mark.version < n
    → GetsMark old mark new
    → AreOfVersions old → InsertsMark (marks_below old n) mark (marks_below new n)
