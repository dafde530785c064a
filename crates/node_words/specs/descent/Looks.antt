-- What is told of one cell of a block.
use Rattle.std.specs.Prelude.{◌≡◌, ℕ, Option, Some, None, Bool, List, true, false}
use Rattle.vw_cell.specs.declared.cells.Cell.{Cell}
use Rattle.vw_cell.specs.declared.boxes.Boxed.{Boxed}
use Rattle.vw_cell.specs.Places.{IsInBox, block_side}
use Rattle.node_words.specs.declared.shapes.names.Name.{Name}
use Rattle.node_words.specs.shapes.Tree.{Tree}
use Rattle.node_words.specs.descent.Roots.{ForBlock, cells_of}
use Rattle.node_words.specs.descent.Parts.{EndsBy}

-- the cell stands in this box, which ends within the side and has no set cell
pub record IsClearRound (side : ℕ) (cells : Cell → Bool) (c : Cell) (b : Boxed) : Type 0 where
  pub ends : EndsBy side b
  pub around : IsInBox b c
  pub clear : (p : Cell) → IsInBox b p → cells p ≡ false

-- the cell is set, or stands in a box of clear cells
abbrev pub Looks : ℕ → (Cell → Bool) → Cell → Option Boxed → Type 0
Looks side cells c None = cells c ≡ true
Looks side cells c (Some b) = IsClearRound side cells c b

-- so it is of the cell of a block
abbrev pub LooksAt : List Tree → ℕ → Option Name → Cell → Option Boxed → Type 0
LooksAt held level block c found =
    ForBlock held level block (λ s. Looks (block_side level) (cells_of level s) c found)
