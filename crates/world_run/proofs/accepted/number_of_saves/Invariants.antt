use Rattle.std.proofs.Common.{◌≡◌, ◌≤◌, take}
use Rattle.conformance.specs.sessions.Saves.{saves_asked_in}
use Rattle.world_run.proofs.accepted.number_of_saves.Given as goal

abbrev pub invariant-loop-line : goal.invariant-loop-line
invariant-loop-line l = record {
  is : l.number ≡ saves_asked_in (take l.line-index l.lines);
  few : l.number ≤ l.line-index;
}
