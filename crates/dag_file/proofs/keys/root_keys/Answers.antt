use Rattle.dag_file.proofs.KeyLaws.{got, root_item, roots_sorted, few_roots}
use Rattle.dag_file.proofs.keys.root_keys.Goals as goal

pub loop-item-preserved : goal.loop-item-preserved
loop-item-preserved c =
    root_item c.args.roots.now c.loop-item.item-index c.item-item.result c.root_name.result _ _ _
    (got _ _ _ c.loop-item-test.true c.item-item.is) c.root_name.ensures c.push_key.ensures.slot c.loop-item.invariant c.in_ok-push_key.ensures.pushed

pub returns-clause-roots : goal.returns-clause-roots
returns-clause-roots c =
    roots_sorted c.args.roots.now c.loop-item.item-index _ _ c.loop-item.invariant c.loop-item.auto.item-index-end c.loop-item-test.false c.sort_once.ensures.rises c.sort_once.ensures.keeps c.sort_once.ensures.adds_none

pub returns-clause-few : goal.returns-clause-few
returns-clause-few c = few_roots _ _ (returns-clause-roots c)
