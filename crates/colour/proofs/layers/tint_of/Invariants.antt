use Rattle.std.proofs.Common.{◌≡◌, ◌+◌, ◌/◌, ◌^◌, ◌<◌, ℕ}
use Rattle.vw_cell.specs.Counts.{cell_at}
use Rattle.node_words.specs.shapes.Tree.{Tree}
use Rattle.node_words.specs.contents.CellShapes.{bits_below}
use Rattle.colour.specs.Layers.{HoldsBits, bit_cells}
use Rattle.colour.proofs.layers.tint_of.Given as goal

abbrev pub invariant-loop-bit : goal.invariant-loop-bit
invariant-loop-bit l =
    record {
      so_far : (side : ℕ) (t : Tree)
          → HoldsBits l.fn.rows l.fn.b ((l.fn.b.at.z + l.fn.c.z) / 4) side t 8
          → l.tint ≡ bits_below (λ bit. bit_cells side t bit
          (cell_at (l.fn.b.at.x + l.fn.c.x) (l.fn.b.at.y + l.fn.c.y)
          (l.fn.b.at.z + l.fn.c.z))) l.bit;
      small : l.tint < 2 ^ l.bit;
    }
