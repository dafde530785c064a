use Rattle.std.proofs.Common.{◌-◌, arith}
use Rattle.dag_file.proofs.KeyLaws.{roots_reached}
use Rattle.dag_file.proofs.MadeLaws.{layers_indexed, layers_few, many_in, few_in}
use Rattle.dag_file.proofs.WrittenLaws.{file_of_parts, few_in_slice}
use Rattle.dag_file.proofs.writing.file_of.Goals as goal

pub layers_of-requires-clause-keys : goal.layers_of-requires-clause-keys
layers_of-requires-clause-keys g c =
    roots_reached _ (c.args.side - 1) (c.exponent.result - 2) c.args.roots.now _
    (let value = c.exponent.ensures.value in let bounds = c.exponent.ensures.bounds in omega
    (arith, value, bounds)) c.requires.roots c.in_ok-keys.ensures.roots

pub pairs_of-requires-clause-many : goal.pairs_of-requires-clause-many
pairs_of-requires-clause-many g c =
    many_in c.in_ok-layers.layers.keys.items c.deref.result.now c.in_ok-layers.layers.indices.items c.deref-2.result.now c.deref.ensures.value c.deref-2.ensures.value (layers_indexed _ _ _ _ _ _ _ c.in_ok-layers.ensures.layers)

pub pairs_of-requires-clause-few : goal.pairs_of-requires-clause-few
pairs_of-requires-clause-few g c =
    few_in c.in_ok-layers.layers.keys.items c.deref.result.now c.in_ok-layers.layers.indices.items c.deref-2.result.now c.deref.ensures.value c.deref-2.ensures.value (layers_few _ _ _ _ _ _ _ c.in_ok-layers.ensures.layers)

pub put_file-requires : goal.put_file-requires
put_file-requires g c =
    record { few = few_in_slice c.args.roots.now c.deref.result.now c.deref-2.result.now c.in_ok-pairs.pairs.items c.deref-3.result.now c.deref-3.ensures.value c.requires.rise c.requires.small c.in_ok-pairs.ensures }

pub returns-clause-file : goal.returns-clause-file
returns-clause-file g c =
    file_of_parts (g.B.Blocks.seen c.args.store.now).held c.args.side c.exponent.result
    (c.exponent.result - 2) c.args.roots.now c.in_ok-keys.keys.items c.in_ok-layers.layers.keys.items c.deref.result.now c.in_ok-layers.layers.indices.items c.deref-2.result.now c.in_ok-layers.layers.counts.items c.in_ok-layers.layers.leaves.items c.in_ok-layers.layers.nodes.items c.in_ok-pairs.pairs.items c.deref-3.result.now c.in_ok-file.file.items
    c.exponent.ensures.value c.exponent.ensures.bounds
    (let value = c.exponent.ensures.value in omega
    (arith)) c.in_ok-layers.ensures.layers c.in_ok-layers.ensures.keys c.in_ok-keys.ensures.roots c.deref.ensures.value c.deref-2.ensures.value c.deref-3.ensures.value c.in_ok-pairs.ensures c.requires.roots c.requires.canonical c.requires.rise c.requires.small c.in_ok-file.ensures
