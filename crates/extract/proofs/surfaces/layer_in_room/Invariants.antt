use Rattle.std.proofs.Common.{◌+◌, ◌/◌, Bool, ℕ}
use Rattle.vw_cell.specs.declared.cells.Cell.{Cell}
use Rattle.extract.specs.Listing.{voxels_joined}
use Rattle.extract.specs.Layers.{AppendsVoxels}
use Rattle.extract.specs.Surface.{bare_sides_of, row_of_sides}
use Rattle.extract.specs.BareLayers.{HoldsSlab}
use Rattle.extract.proofs.surfaces.layer_in_room.Given as goal

abbrev pub invariant-loop-y : goal.invariant-loop-y
invariant-loop-y l = record {
  appended : (side : ℕ) (cells : Cell → Bool)
      → HoldsSlab l.fn.slab l.fn.b ((l.fn.b.at.z + l.fn.z) / 4) side cells
      → AppendsVoxels
      (voxels_joined l.y
      (λ y. row_of_sides (bare_sides_of side cells) l.fn.b l.fn.z y l.fn.b.size.x))
      l.fn.into l.into;
}
