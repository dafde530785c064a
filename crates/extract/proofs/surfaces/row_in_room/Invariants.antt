use Rattle.std.proofs.Common.{◌+◌, ◌-◌, ◌/◌, ◌≤◌, Bool, ℕ}
use Rattle.vw_cell.specs.declared.cells.Cell.{Cell}
use Rattle.extract.specs.Layers.{AppendsVoxels}
use Rattle.extract.specs.Surface.{bare_sides_of, row_of_sides}
use Rattle.extract.specs.BareLayers.{HoldsSlab}
use Rattle.extract.proofs.surfaces.row_in_room.Given as goal

abbrev pub invariant-loop-p : goal.invariant-loop-p
invariant-loop-p l = record {
  within : l.p ≤ l.fn.b.size.x;
  appended : (side : ℕ) (cells : Cell → Bool)
      → HoldsSlab l.fn.slab l.fn.b ((l.fn.b.at.z + l.fn.z) / 4) side cells
      → AppendsVoxels (row_of_sides (bare_sides_of side cells) l.fn.b l.fn.z l.fn.y l.p)
      l.fn.into l.into;
}

abbrev pub decreases-loop-p : goal.decreases-loop-p
decreases-loop-p l = l.fn.b.size.x - l.p
