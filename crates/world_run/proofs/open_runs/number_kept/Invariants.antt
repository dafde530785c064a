use Rattle.std.proofs.Common.{◌≡◌, ◌*◌, ◌≤◌, length, take}
use Rattle.world_run.specs.Open.{logged_in}
use Rattle.world_run.proofs.open_runs.number_kept.Given as goal

abbrev pub invariant-loop-s : goal.invariant-loop-s
invariant-loop-s l = record {
  is : l.number ≡ length (logged_in (take l.s-index l.sessions));
  few : l.number ≤ 1024 * l.s-index;
}
