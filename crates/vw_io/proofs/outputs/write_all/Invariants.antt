-- The outputs before this one are whole.
use Rattle.std.proofs.Common.{◌≤◌, take}
use Rattle.vw_io.specs.Outputs.{AreWritten}
use Rattle.vw_io.proofs.outputs.write_all.Given as goal

abbrev pub invariant-loop-output : goal.invariant-loop-output
invariant-loop-output g l = record {
  whole : AreWritten (take l.output-index l.outputs) (g.S.Shelf.state l.initial.shelf).files
      (g.S.Shelf.state l.shelf).files;
  grown : (g.S.Shelf.state l.initial.shelf).faults ≤ (g.S.Shelf.state l.shelf).faults;
}
