use Rattle.std.proofs.Common.{rules}
use Rattle.dag_file.proofs.MadeLaws.{leaf_layer_of, contains_in}
use Rattle.dag_file.proofs.layers.leaf_layer.Goals as goal

pub leaf_indices-requires-clause-there : goal.leaf_indices-requires-clause-there
leaf_indices-requires-clause-there g c =
    contains_in c.in_ok-bits.bits.items c.deref-2.result.now c.deref-3.result.now c.in_ok-leaves.leaves.items c.deref-4.result.now c.deref-2.ensures.value c.deref-3.ensures.value c.deref-4.ensures.value c.in_ok-leaves.ensures.keeps

pub returns-clause-layers : goal.returns-clause-layers
returns-clause-layers g c =
    leaf_layer_of
    (g.B.Blocks.seen c.args.store.now).held c.args.keys.items c.deref.result.now c.in_ok-bits.bits.items c.deref-2.result.now c.deref-3.result.now c.in_ok-leaves.leaves.items c.deref-4.result.now c.in_ok-indices.indices.items c.new-counts.result.items c.push.new.self.items c.len.result c.new-nodes.result.items
    c.deref.ensures.value c.deref-2.ensures.value c.deref-3.ensures.value c.deref-4.ensures.value c.in_ok-bits.ensures.leaves c.in_ok-leaves.ensures.rises c.in_ok-leaves.ensures.adds_none c.in_ok-leaves.ensures.few c.in_ok-indices.ensures c.requires.few c.new-counts.ensures.items (search rules) c.in_ok-push.ensures.items c.new-nodes.ensures.items
