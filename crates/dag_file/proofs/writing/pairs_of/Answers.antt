use Rattle.dag_file.proofs.KeyLaws.{got}
use Rattle.dag_file.proofs.WrittenLaws.{versions_more}
use Rattle.dag_file.proofs.writing.pairs_of.Goals as goal

pub loop-item-preserved : goal.loop-item-preserved
loop-item-preserved c =
    versions_more c.args.roots.now c.args.keys.now c.args.indices.now c.loop-item.item-index c.item-item.result c.pair_of.result _ _ (got _ _ _ c.loop-item-test.true c.item-item.is) c.loop-item.invariant c.pair_of.ensures c.in_ok-push.ensures.items
