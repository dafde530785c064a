-- What is remembered of blocks that can't widen a box.
use Rattle.std.specs.Prelude.{◌≡◌, ℕ, Bool, List, true}
use Rattle.vw_cell.specs.declared.cells.Cell.{Cell}
use Rattle.vw_cell.specs.declared.boxes.Boxed.{Boxed}
use Rattle.vw_cell.specs.Places.{IsInBox, IsInWorld, block_side}
use Rattle.node_words.specs.shapes.Tree.{Tree}
use Rattle.measure.specs.Tallies.{Counting}
use Rattle.measure.specs.declared.pruning.Within.{Within}

-- each cell that counts in the block lies in this part of it
pub record LiesWithinPart {S : Type 0} (counts : Counting S) (held : List Tree) (level : ℕ)
    (subject : S) (part : Boxed) : Type 0 where
  pub each : (test : Cell → Bool) (c : Cell) → counts held level subject test
      → IsInWorld (block_side level) c → test c ≡ true → IsInBox part c

-- a part that has all cells that count; the number tells nothing
abbrev pub tells_within : {S : Type 0} → Counting S → List Tree → Within S → ℕ → Type 0
tells_within counts held q n = LiesWithinPart counts held q.level q.subject q.part
