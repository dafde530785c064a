use Rattle.std.proofs.Common.{◌<◌, Bool}
use Rattle.vw_cell.specs.declared.cells.Cell.{Cell}
use Rattle.node_words.specs.kernels.Leaves.{LeafShows}
use Rattle.measure.specs.Widening.{EndsInside, Widens, IsSetIn, IsSetAt}
use Rattle.measure.proofs.extents.with_leaf.Given as goal

abbrev pub invariant-loop-bit : goal.invariant-loop-bit
invariant-loop-bit l = record {
  widens : (cells : Cell → Bool) → LeafShows l.fn.bits l.fn.place cells
      → Widens (IsSetAt l.fn.place cells (λ n. n < l.bit))
      (IsSetIn l.fn.place cells) l.fn.found l.wide;
  ends : EndsInside l.wide;
}
