use Rattle.std.proofs.Common.{◌≡◌, ◌-◌, ◌≤◌, ◌++◌}
use Rattle.vw_cell.specs.Places.{block_side}
use Rattle.node_words.specs.descent.Roots.{HasBlock, ForBlock, cells_of}
use Rattle.extract.specs.Listing.{voxels_joined}
use Rattle.extract.specs.Sides.{AreFound}
use Rattle.extract.specs.Surface.{bare_sides_of, layer_of_sides}
use Rattle.extract.proofs.surfaces.slabs_in.Given as goal

abbrev pub invariant-loop-z : goal.invariant-loop-z
invariant-loop-z g l =
    let seen = g.B.Blocks.seen in
    record {
      within : l.z ≤ l.fn.b.size.z;
      appended : ForBlock (seen l.fn.store).held l.fn.level l.fn.block
          (λ s. l.into.items ≡ l.fn.into.items ++ voxels_joined l.z
          (layer_of_sides (bare_sides_of (block_side l.fn.level) (cells_of l.fn.level s)) l.fn.b));
      right : AreFound (seen l.store).held l.found;
      block : HasBlock (seen l.store).held l.fn.level l.fn.block;
      same : seen l.store ≡ seen l.fn.store;
      rests : g.B.Blocks.rests l.fn.store l.store;
    }

abbrev pub decreases-loop-z : goal.decreases-loop-z
decreases-loop-z g l = l.fn.b.size.z - l.z
