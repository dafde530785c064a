use Rattle.std.proofs.Common.{rules}
use Rattle.dag_file.proofs.MadeLaws.{layers_indexed, layers_few, node_layer_of, many_in, few_in, contains_in}
use Rattle.dag_file.proofs.layers.add_layer.Goals as goal

pub node_contents-requires-clause-many : goal.node_contents-requires-clause-many
node_contents-requires-clause-many g c =
    many_in c.args.layers.now.keys.items c.deref-2.result.now c.args.layers.now.indices.items c.deref-3.result.now c.deref-2.ensures.value c.deref-3.ensures.value (layers_indexed _ _ _ _ _ _ _ c.requires.layers)

pub node_contents-requires-clause-few : goal.node_contents-requires-clause-few
node_contents-requires-clause-few g c =
    few_in c.args.layers.now.keys.items c.deref-2.result.now c.args.layers.now.indices.items c.deref-3.result.now c.deref-2.ensures.value c.deref-3.ensures.value (layers_few _ _ _ _ _ _ _ c.requires.layers)

pub node_indices-requires-clause-there : goal.node_indices-requires-clause-there
node_indices-requires-clause-there g c =
    contains_in c.in_ok-words.words.items c.deref-4.result.now c.deref-5.result.now c.in_ok-sorted.sorted.items c.deref-6.result.now c.deref-4.ensures.value c.deref-5.ensures.value c.deref-6.ensures.value c.in_ok-sorted.ensures.keeps

pub returns-clause-layers : goal.returns-clause-layers
returns-clause-layers g c =
    node_layer_of
    (g.B.Blocks.seen c.args.store.now).held c.args.level c.args.keys.items c.deref.result.now c.args.layers.now.keys.items c.deref-2.result.now c.args.layers.now.indices.items c.deref-3.result.now c.in_ok-indices.indices.items c.args.layers.now.counts.items c.push.new.self.items c.args.layers.now.leaves.items c.args.layers.now.nodes.items c.extend_from_slice.new.self.items c.in_ok-words.words.items c.deref-4.result.now c.deref-5.result.now c.in_ok-sorted.sorted.items c.deref-6.result.now c.deref-7.result.now c.len.result
    c.requires.level c.deref.ensures.value c.deref-2.ensures.value c.deref-3.ensures.value c.deref-4.ensures.value c.deref-5.ensures.value c.deref-6.ensures.value c.deref-7.ensures.value c.requires.layers c.requires.children c.in_ok-words.ensures.nodes c.in_ok-sorted.ensures.adds_none c.in_ok-sorted.ensures.rises c.in_ok-sorted.ensures.few c.in_ok-indices.ensures c.requires.few (search rules) c.in_ok-push.ensures.items c.in_ok-extend_from_slice.ensures.items
