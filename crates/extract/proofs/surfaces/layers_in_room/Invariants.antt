use Rattle.std.proofs.Common.{◌+◌, ◌/◌, Bool, ℕ}
use Rattle.vw_cell.specs.declared.cells.Cell.{Cell}
use Rattle.extract.specs.Listing.{voxels_joined}
use Rattle.extract.specs.Layers.{AppendsVoxels}
use Rattle.extract.specs.Surface.{bare_sides_of, layer_of_sides}
use Rattle.extract.specs.BareLayers.{HoldsSlab}
use Rattle.extract.proofs.surfaces.layers_in_room.Given as goal

abbrev pub invariant-loop-k : goal.invariant-loop-k
invariant-loop-k l = record {
  appended : (side : ℕ) (cells : Cell → Bool)
      → HoldsSlab l.fn.slab l.fn.b ((l.fn.b.at.z + l.fn.z) / 4) side cells
      → AppendsVoxels
      (voxels_joined l.k (λ k. layer_of_sides (bare_sides_of side cells) l.fn.b (l.fn.z + k)))
      l.fn.into l.into;
}
