use Rattle.std.specs.Vec.Iter.{into_iter_items, into_iter_len}
use Rattle.one_store.specs.Known.{Known}
use Rattle.store_run.specs.Taken.{AreLent, AreLeftOut}
use Rattle.store_run.proofs.lent_roots.put_roots.Given as goal

abbrev pub invariant-loop-item : goal.invariant-loop-item
invariant-loop-item l = record {
  lent : AreLent l.store (into_iter_items l.left);
  back : (from : Known) → AreLeftOut from l.fn.store l.fn.roots.items
      → AreLeftOut from l.store (into_iter_items l.left);
}

abbrev pub decreases-loop-item : goal.decreases-loop-item
decreases-loop-item l = into_iter_len l.left
