use Rattle.std.specs.Prelude.{All}
use Rattle.vox_read.specs.Contents.{IsInsideModel}
use Rattle.tests_edits.proofs.colours.cells.voxels_of.Given as goal

abbrev pub invariant-loop-x : goal.invariant-loop-x
invariant-loop-x l = All (IsInsideModel l.size) l.voxels.items
