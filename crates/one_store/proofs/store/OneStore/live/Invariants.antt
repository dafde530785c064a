use Rattle.std.proofs.Common.{◌≡◌, ◌≤◌, ◌*◌}
use Rattle.vw_cell.specs.Sums.{sum_below}
use Rattle.core_laws.specs.Blocks.{live_in}
use Rattle.one_store.specs.Known.{core_of}
use Rattle.one_store.proofs.store.OneStore.live.Given as goal

abbrev pub invariant-loop-bucket : goal.invariant-loop-bucket
invariant-loop-bucket l = record {
  number_is : l.number ≡ sum_below l.bucket
      (λ bucket. live_in l.self.words.plan (core_of l.self) l.level bucket);
  few : l.number ≤ 256 * l.bucket;
}
