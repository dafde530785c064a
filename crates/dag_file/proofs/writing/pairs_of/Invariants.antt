use Rattle.dag_file.specs.Layers.{AreVersionPairs}
use Rattle.dag_file.proofs.writing.pairs_of.Given as goal

abbrev pub invariant-loop-item : goal.invariant-loop-item
invariant-loop-item l = AreVersionPairs l.roots l.fn.keys l.fn.indices l.item-index l.pairs.items
