use Rattle.std.proofs.Common.{◌≤◌, vec_len, vec_capacity}
use Rattle.store_run.specs.Taken.{AreTakenRoots}
use Rattle.store_run.proofs.stored_versions.Versions.held_roots.Given as goal

abbrev pub invariant-loop-version : goal.invariant-loop-version
invariant-loop-version l = record {
  taken : AreTakenRoots l.self l.version l.held.store l.held.roots.items;
  room : vec_len l.held.roots ≤ l.version;
  ample : l.versions ≤ vec_capacity l.held.roots;
}
