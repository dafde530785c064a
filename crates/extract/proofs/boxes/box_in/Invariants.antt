use Rattle.std.proofs.Common.{◌≡◌, ◌-◌, ◌≤◌}
use Rattle.node_words.specs.descent.Roots.{ForBlock, cells_of}
use Rattle.extract.specs.Listing.{voxels_joined, box_layer}
use Rattle.extract.specs.Layers.{AppendsVoxels}
use Rattle.extract.proofs.boxes.box_in.Given as goal

abbrev pub invariant-loop-z : goal.invariant-loop-z
invariant-loop-z g l =
    let seen = g.B.Blocks.seen in
    record {
      within : l.z ≤ l.fn.b.size.z;
      appended : ForBlock (seen l.fn.store).held l.fn.level l.fn.block
          (λ s. AppendsVoxels
          (voxels_joined l.z (box_layer (cells_of l.fn.level s) l.fn.b)) l.fn.into l.into);
      same : seen l.store ≡ seen l.fn.store;
      rests : g.B.Blocks.rests l.fn.store l.store;
    }

abbrev pub decreases-loop-z : goal.decreases-loop-z
decreases-loop-z g l = l.fn.b.size.z - l.z
