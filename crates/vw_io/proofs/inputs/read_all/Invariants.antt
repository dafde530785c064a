-- The inputs before this one were taken.
use Rattle.std.proofs.Common.{◌≡◌, ◌≤◌, take}
use Rattle.vw_io.specs.Inputs.{AreTaken}
use Rattle.vw_io.proofs.inputs.read_all.Given as goal

abbrev pub invariant-loop-input : goal.invariant-loop-input
invariant-loop-input g l = record {
  taken : AreTaken (g.S.Shelf.state l.initial.shelf).files
      (take l.input-index l.inputs) l.texts.items;
  unchanged : (g.S.Shelf.state l.shelf).files ≡ (g.S.Shelf.state l.initial.shelf).files;
  start : l.input-index ≡ 0
      → (g.S.Shelf.state l.shelf).faults ≡ (g.S.Shelf.state l.initial.shelf).faults;
  grown : (g.S.Shelf.state l.initial.shelf).faults ≤ (g.S.Shelf.state l.shelf).faults;
}
