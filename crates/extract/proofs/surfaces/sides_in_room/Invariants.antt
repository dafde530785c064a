use Rattle.extract.specs.BareLayers.{run_told}
use Rattle.extract.specs.Layers.{AppendsVoxels}
use Rattle.extract.proofs.surfaces.sides_in_room.Given as goal

abbrev pub invariant-loop-p : goal.invariant-loop-p
invariant-loop-p l = AppendsVoxels (run_told l.fn.row l.fn.x l.p l.fn.to) l.fn.into l.into
