use Rattle.std.proofs.Common.{◌≡◌, ◌≤◌}
use Rattle.vw_cell.specs.Sums.{sum_below}
use Rattle.core_laws.specs.places.Names.{named}
use Rattle.core_laws.specs.Counting.{if_live}
use Rattle.one_store.specs.entries.Words.{book_in}
use Rattle.one_store.proofs.store.OneStore.live_in.Given as goal

abbrev pub invariant-loop-slot : goal.invariant-loop-slot
invariant-loop-slot l = record {
  number_is : l.number ≡ sum_below l.slot
      (λ slot. if_live (book_in l.self.words (named l.level l.bucket slot)) 1);
  few : l.number ≤ l.slot;
}
