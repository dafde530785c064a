-- Numbers of the cells of a part of a block that count, by what is known of the block.
use Rattle.std.specs.Prelude.{◌≡◌, ℕ, ◌-◌, ◌<◌, Bool, false, List}
use Rattle.vw_cell.specs.declared.cells.Cell.{Cell}
use Rattle.vw_cell.specs.Places.{block_side, IsInWorld}
use Rattle.vw_cell.specs.Counts.{number_in}
use Rattle.node_words.specs.shapes.Tree.{Tree}
use Rattle.node_words.specs.Held.{bits_of_leaf}
use Rattle.node_words.specs.descent.Parts.{placed, part_in, whole_of}
use Rattle.measure.specs.Leaves.{BitsPassTest}
use Rattle.measure.specs.declared.tallies.Part.{Part}
use Rattle.measure.specs.declared.wholes.WholeBlock.{WholeBlock}

-- which cells of a block of some level count, for what a subject says of the block while some trees
-- are held
abbrev pub Counting : Type 0 → Type 1
Counting S = List Tree → ℕ → S → (Cell → Bool) → Type 0

-- the same test, of the cells of an octant
abbrev pub in_octant : ℕ → ℕ → (Cell → Bool) → Cell → Bool
in_octant level k test c = test (placed (block_side (level - 1)) k c)

-- of the first leaves of a block of eight, by octant, the bits are those of the cells that pass
pub record LeavesPassTest (number : ℕ) (leaves : List ℕ) (test : Cell → Bool) : Type 0 where
  pub each : (k : ℕ) → k < number → BitsPassTest (bits_of_leaf leaves k) (in_octant 1 k test)

-- no cell of a block of this level passes
pub record PassesNone (level : ℕ) (test : Cell → Bool) : Type 0 where
  pub each : (c : Cell) → IsInWorld (block_side level) c → test c ≡ false

-- the number is that of the part's cells that count
abbrev pub IsTally : {S : Type 0} → Counting S → List Tree → Part S → ℕ → Type 0
IsTally counts held p number =
    (test : Cell → Bool) → counts held p.level p.subject test → number ≡ number_in p.part test

-- the number is that of a whole block's cells that count
abbrev pub IsWholeTally : {S : Type 0} → Counting S → List Tree → WholeBlock S → ℕ → Type 0
IsWholeTally counts held w number =
    (test : Cell → Bool) → counts held w.level w.subject test
    → number ≡ number_in (whole_of w.level) test

-- the number is that of the part's cells in an octant that count
abbrev pub IsOctantTally : {S : Type 0} → Counting S → List Tree → Part S → ℕ → ℕ → Type 0
IsOctantTally counts held p octant number =
    (test : Cell → Bool) → counts held p.level p.subject test
    → number ≡ number_in (part_in (block_side (p.level - 1)) p.part octant)
    (in_octant p.level octant test)
