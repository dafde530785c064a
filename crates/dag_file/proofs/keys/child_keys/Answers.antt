use Rattle.std.proofs.Common.{◌∙◌}
use Rattle.dag_file.proofs.KeyLaws.{node_step, still_reached, children_sorted, children_reached, few_keys}
use Rattle.dag_file.proofs.keys.child_keys.Goals as goal

pub loop-key-preserved : goal.loop-key-preserved
loop-key-preserved g c = record {
  adds = node_step _ _ c.args.level c.args.keys.now c.loop-key.key-index c.name_at.result _ _ _ c.loop-key.invariant.same c.loop-key.invariant.adds c.name_at.ensures c.in_ok-push_children.ensures.adds;
  reached = still_reached _ _ c.args.level c.args.keys.now c.push_children.ensures.seen c.loop-key.invariant.reached;
  same = c.push_children.ensures.seen ∙ c.loop-key.invariant.same;
  rests = g.met.B.Blocks.rests_on _ _ _ c.loop-key.invariant.rests c.push_children.ensures.rests;
}

pub returns-clause-children : goal.returns-clause-children
returns-clause-children g c =
    children_sorted _ _ c.loop-key.key-index _ _ _ c.loop-key.invariant.adds c.loop-key.auto.key-index-end c.loop-key-test.false c.sort_once.ensures.rises c.sort_once.ensures.keeps c.sort_once.ensures.adds_none

pub returns-clause-reached : goal.returns-clause-reached
returns-clause-reached g c =
    children_reached _ _ c.args.keys.now _ c.requires.keys (returns-clause-children g c)

pub returns-clause-few : goal.returns-clause-few
returns-clause-few g c = few_keys _ _ _ c.sort_once.ensures.rises (returns-clause-reached g c)
