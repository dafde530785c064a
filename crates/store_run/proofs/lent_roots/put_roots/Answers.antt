use Rattle.std.proofs.Common.{◌≡◌, List, [], sym, subst, ◌∙◌}
use Rattle.std.specs.Vec.Iter.{into_iter_items}
use Rattle.store_run.specs.Marked.{Rooted}
use Rattle.store_run.specs.Taken.{AreLeftOut}
use Rattle.store_run.proofs.Lent.{comes_back, left_then, lent_then, no_more}
use Rattle.store_run.proofs.lent_roots.put_roots.Goals as goal

pub put_root-requires : goal.put_root-requires
put_root-requires c =
    comes_back c.loop-item.store c.in-Some.item _ _ c.in-Some.ensures.items
    c.loop-item.invariant.lent

pub loop-item-preserved : goal.loop-item-preserved
loop-item-preserved c = record {
  lent = lent_then c.loop-item.store c.put_root.new.store c.in-Some.item _ _
      c.in-Some.ensures.items c.put_root.ensures c.loop-item.invariant.lent;
  back = λ from left.
      left_then from c.loop-item.store c.put_root.new.store c.in-Some.item _ _
      c.in-Some.ensures.items c.put_root.ensures (c.loop-item.invariant.back from left);
}

pub returns : goal.returns
returns c = λ from left.
    let none : into_iter_items c.loop-item.left ≡ [] =
    no_more (into_iter_items c.loop-item.left)
    (sym c.loop-item.left.rest.ok.0 ∙ c.in_default.ensures.cases.0) in
    subst (λ (l : List Rooted). AreLeftOut from c.loop-item.store l) none
    (c.loop-item.invariant.back from left)
