use Rattle.std.proofs.Common.{◌+◌, ◌-◌, ◌/◌, ◌≤◌, Bool}
use Rattle.vw_cell.specs.declared.cells.Cell.{Cell}
use Rattle.extract.specs.Listing.{box_row}
use Rattle.extract.specs.Layers.{AppendsVoxels, HoldsLayer, leaves_in}
use Rattle.extract.proofs.rows.row_in.Given as goal

abbrev pub invariant-loop-p : goal.invariant-loop-p
invariant-loop-p l = record {
  within : l.p ≤ l.fn.b.size.x;
  appended : (cells : Cell → Bool)
      → HoldsLayer l.fn.leaves l.fn.b ((l.fn.b.at.z + l.fn.z) / 4) (leaves_in l.fn.b) cells
      → AppendsVoxels (box_row cells l.fn.b l.fn.z l.fn.y l.p) l.fn.into l.into;
}

abbrev pub decreases-loop-p : goal.decreases-loop-p
decreases-loop-p l = l.fn.b.size.x - l.p
