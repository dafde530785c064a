use Rattle.std.proofs.Common.{◌≤◌, vec_len, vec_capacity}
use Rattle.node_words.specs.shapes.Weights.{number_of_trees}
use Rattle.store_run.specs.declared.stored_versions.Versions.{Versions}
use Rattle.store_run.specs.Taken.{AreTakenRoots, AreToBeTaken}
use Rattle.store_run.proofs.lent_roots.take_roots.Given as goal

abbrev pub invariant-loop-version : goal.invariant-loop-version
invariant-loop-version l = record {
  taken : (v : Versions) → AreToBeTaken v l.fn.store l.marks l.versions
      → AreTakenRoots v l.version l.store l.roots.items;
  few : number_of_trees l.store.told.held ≤ l.version;
  room : vec_len l.roots ≤ l.version;
  ample : l.versions ≤ vec_capacity l.roots;
}
