use Rattle.std.proofs.Common.{◌≡◌, ◌+◌, ◌<◌, length, drop, take}
use Rattle.world_run.specs.Open.{logged_in}
use Rattle.world_run.proofs.open_runs.place_of.Given as goal

abbrev pub invariant-loop-at : goal.invariant-loop-at
invariant-loop-at l = record {
  is : l.fn.k ≡ length (logged_in (take l.at l.sessions)) + l.left;
  inside : l.left < length (logged_in (drop l.at l.sessions));
}
