use Rattle.std.proofs.Common.{◌+◌, ◌/◌, Bool}
use Rattle.vw_cell.specs.declared.cells.Cell.{Cell}
use Rattle.extract.specs.Listing.{voxels_joined, box_row}
use Rattle.extract.specs.Layers.{AppendsVoxels, HoldsLayer, leaves_in}
use Rattle.extract.proofs.rows.layer_in.Given as goal

abbrev pub invariant-loop-y : goal.invariant-loop-y
invariant-loop-y l = record {
  appended : (cells : Cell → Bool)
      → HoldsLayer l.fn.leaves l.fn.b ((l.fn.b.at.z + l.fn.z) / 4) (leaves_in l.fn.b) cells
      → AppendsVoxels
      (voxels_joined l.y (λ y. box_row cells l.fn.b l.fn.z y l.fn.b.size.x)) l.fn.into l.into;
}
