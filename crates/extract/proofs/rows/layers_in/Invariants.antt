use Rattle.std.proofs.Common.{◌+◌, ◌/◌, Bool}
use Rattle.vw_cell.specs.declared.cells.Cell.{Cell}
use Rattle.extract.specs.Listing.{voxels_joined, box_layer}
use Rattle.extract.specs.Layers.{AppendsVoxels, HoldsLayer, leaves_in}
use Rattle.extract.proofs.rows.layers_in.Given as goal

abbrev pub invariant-loop-k : goal.invariant-loop-k
invariant-loop-k l = record {
  appended : (cells : Cell → Bool)
      → HoldsLayer l.fn.leaves l.fn.b ((l.fn.b.at.z + l.fn.z) / 4) (leaves_in l.fn.b) cells
      → AppendsVoxels
      (voxels_joined l.k (λ k. box_layer cells l.fn.b (l.fn.z + k))) l.fn.into l.into;
}
