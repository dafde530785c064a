use Rattle.std.proofs.Common.{refl, rules}
use Rattle.std.specs.Ordering.{nat_cmp}
use Rattle.std.specs.BTreeMap.{get}
use Rattle.report.specs.Roots.{root_in_list}
use Rattle.report.proofs.ListLaws.{all_before, none_before, one_more}
use Rattle.report.proofs.rows.rows.Goals as goal

pub loop-root-init : goal.loop-root-init
loop-root-init c log are =
    none_before log c.args.roots.now are _ (get nat_cmp c.new-firsts.result)
    c.in_ok-rows.ensures.items (λ k. let e = c.new-firsts.ensures.empty in rw e refl)

pub loop-root-preserved : goal.loop-root-preserved
loop-root-preserved c log are =
    one_more log c.args.roots.now are c.loop-root.root-index _ _ _ _ _
    (c.in_ok-add_row.ensures log (root_in_list c.args.roots.now))
    c.loop-root-test.true (search rules) (c.loop-root.invariant log are)

pub returns : goal.returns
returns c log are =
    all_before log c.args.roots.now are c.loop-root.rows.items (get nat_cmp c.loop-root.firsts)
    c.loop-root.root-index c.loop-root-test.false (c.loop-root.invariant log are)
