-- The eight sources of an octant, each read from the store as it was.
use Rattle.std.proofs.Common.{◌≡◌, ℕ, zero, suc, ◌-◌, ◌<◌, Option, List, sym, subst, arith}
use Rattle.vw_cell.specs.declared.cells.Cell.{Cell}
use Rattle.node_words.specs.declared.shapes.names.Name.{Name}
use Rattle.node_words.specs.shapes.Tree.{Tree}
use Rattle.node_words.specs.Held.{StoreState}
use Rattle.edit_copy.specs.Copies.{AreBlocks, IsSource}

-- a source that was read after others, of which none changed what is seen
pub source_before : (was is : StoreState) (level : ℕ) (sources : List (Option Name)) (row : ℕ → Tree)
    (at offset : Cell) (j : ℕ) (name : Option Name) → is ≡ was
    → AreBlocks was.held level sources row
    →
    ((r : ℕ → Tree) → AreBlocks is.held level sources r
    → IsSource is.held (level - 1) r at offset j name)
    → IsSource was.held (level - 1) row at offset j name
source_before was is level sources row at offset j name e are read =
    subst (λ (s : StoreState). IsSource s.held (level - 1) row at offset j name) e
    (read row (subst (λ (s : StoreState). AreBlocks s.held level sources row) (sym e) are))

pub each_of_eight : (P : ℕ → Type 0) → P 0 → P 1 → P 2 → P 3 → P 4 → P 5 → P 6 → P 7 → (j : ℕ)
    → j < 8 → P j
each_of_eight P a b c d e f g h zero lt = a
each_of_eight P a b c d e f g h (suc zero) lt = b
each_of_eight P a b c d e f g h (suc (suc zero)) lt = c
each_of_eight P a b c d e f g h (suc (suc (suc zero))) lt = d
each_of_eight P a b c d e f g h (suc (suc (suc (suc zero)))) lt = e
each_of_eight P a b c d e f g h (suc (suc (suc (suc (suc zero))))) lt = f
each_of_eight P a b c d e f g h (suc (suc (suc (suc (suc (suc zero)))))) lt = g
each_of_eight P a b c d e f g h (suc (suc (suc (suc (suc (suc (suc zero))))))) lt = h
each_of_eight P a b c d e f g h (suc (suc (suc (suc (suc (suc (suc (suc j)))))))) lt =
    absurd (omega arith)
