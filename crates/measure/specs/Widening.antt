-- A box that is widened to have the cells that count in one block after another.
use Rattle.std.specs.Prelude.{◌≡◌, ◌≢◌, ℕ, ◌+◌, ◌<◌, ◌-◌, ◌/◌, ◌%◌, ⊤, Bool, true, Option, Some, None, List}
use Rattle.vw_cell.specs.declared.cells.Cell.{Cell}
use Rattle.vw_cell.specs.declared.boxes.Boxed.{Boxed}
use Rattle.vw_cell.specs.declared.blocks.Block.{Block}
use Rattle.vw_cell.specs.Places.{IsInBox, IsInBlock, IsInWorld, block_side, octant_of}
use Rattle.vw_cell.specs.Counts.{cell_at}
use Rattle.node_words.specs.shapes.Shape.{bit_number}
use Rattle.node_words.specs.shapes.Tree.{Tree}
use Rattle.node_words.specs.descent.Parts.{EndsBy}
use Rattle.vw_cell.specs.Extents.{LiesWithin}
use Rattle.measure.specs.Tallies.{Counting}

-- the cell lies in the box, where there is one
abbrev pub IsFound : Option Boxed → Cell → Type 0
IsFound None c = ⊥
IsFound (Some b) c = IsInBox b c

-- the box, where there is one, lies in another
abbrev pub FitsIn : Option Boxed → Boxed → Type 0
FitsIn None d = ⊤
FitsIn (Some b) d = LiesWithin b d

-- the box, where there is one, ends in the greatest world
abbrev pub EndsInside : Option Boxed → Type 0
EndsInside None = ⊤
EndsInside (Some b) = EndsBy 4096 b

-- the new box has what the old has and each cell that it must have, and is no greater than the old
-- one and the cells that it may have ask for
pub record Widens (must may : Cell → Type 0) (old new : Option Boxed) : Type 0 where
  pub keeps : (c : Cell) → IsFound old c → IsFound new c
  pub holds : (c : Cell) → must c → IsFound new c
  pub least : (d : Boxed) → FitsIn old d → ((c : Cell) → may c → IsInBox d c) → FitsIn new d
  pub some : (b : Boxed) → old ≡ None → new ≡ Some b → (c : Cell) × may c

-- a set cell of a block of the world
pub record IsSetIn (place : Block) (cells : Cell → Bool) (c : Cell) : Type 0 where
  pub inside : IsInBlock place c
  pub set : cells c ≡ true

-- a set cell of some of the octants of a block
pub record IsSetInSome (place : Block) (cells : Cell → Bool) (which : ℕ → Type 0)
    (c : Cell) : Type 0 where
  pub octant : ℕ
  pub is : which octant
  pub set_in : IsSetIn (octant_of place octant) cells c

-- the octants before the n-th, but for one and its opposite
pub record IsOther (corner n k : ℕ) : Type 0 where
  pub below : k < n
  pub apart : k ≢ corner
  pub far : k ≢ 7 - corner

-- one octant, if it is neither that one nor its opposite
pub record IsOtherAt (corner n k : ℕ) : Type 0 where
  pub same : k ≡ n
  pub apart : k ≢ corner
  pub far : k ≢ 7 - corner

-- the cell of the world that a cell of a block is
abbrev pub from_corner : Block → Cell → Cell
from_corner place c = cell_at (place.at.x + c.x) (place.at.y + c.y) (place.at.z + c.z)

-- in this block of the world just the cells that pass the test are set
pub record ShowsPassed (place : Block) (test cells : Cell → Bool) : Type 0 where
  pub each : (c : Cell) → IsInWorld (block_side place.level) c
      → test c ≡ cells (from_corner place c)

-- P of cells of the world of which those count in a block that a subject says
abbrev pub ForCounted : {S : Type 0} → Counting S → List Tree → S → Block
    → ((Cell → Bool) → Type 0) → Type 0
ForCounted counts held subject place P =
    (cells test : Cell → Bool) → counts held place.level subject test → ShowsPassed place test cells
    → P cells

-- the old box is widened by the cells that count in a block
abbrev pub WidensBy : {S : Type 0} → Counting S → List Tree → S → Block → Option Boxed
    → Option Boxed → Type 0
WidensBy counts held subject place old new =
    ForCounted counts held subject place
    (λ cells. Widens (IsSetIn place cells) (IsSetIn place cells) old new)

-- the cell that a bit of a leaf's block stands for
abbrev pub leaf_cell : Block → ℕ → Cell
leaf_cell place bit =
    cell_at (place.at.x + bit % 4) (place.at.y + bit / 4 % 4) (place.at.z + bit / 16)

-- the bit of a leaf that stands for a cell of its block
abbrev pub bit_of : Block → Cell → ℕ
bit_of place c = bit_number (c.x - place.at.x) (c.y - place.at.y) (c.z - place.at.z)

-- a set cell of a leaf whose bit is one of these
pub record IsSetAt (place : Block) (cells : Cell → Bool) (which : ℕ → Type 0)
    (c : Cell) : Type 0 where
  pub set_in : IsSetIn place cells c
  pub is : which (bit_of place c)
