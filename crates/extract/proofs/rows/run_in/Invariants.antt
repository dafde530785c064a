use Rattle.extract.specs.Listing.{row_voxels}
use Rattle.extract.specs.Layers.{AppendsVoxels, bits_show}
use Rattle.extract.proofs.rows.run_in.Given as goal

abbrev pub invariant-loop-p : goal.invariant-loop-p
invariant-loop-p l =
    AppendsVoxels (row_voxels (bits_show l.fn.bits) l.fn.at l.p l.fn.to) l.fn.into l.into
