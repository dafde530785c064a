use Rattle.node_words.proofs.OfDescent.LookLaws.{in_root}
use Rattle.node_words.proofs.OfDescent.BlockLaws.{root_block}
use Rattle.measure.proofs.counts.get.Goals as goal

pub is_set_in-requires-clause-block : goal.is_set_in-requires-clause-block
is_set_in-requires-clause-block g c =
    rw (c.root_level.ensures.value, c.name_of.ensures) (root_block _ c.args.side _ c.requires.root)

pub is_set_in-requires-clause-cell : goal.is_set_in-requires-clause-cell
is_set_in-requires-clause-cell g c =
    in_root _ c.args.side c.args.c c.root_level.ensures.value c.root_level.ensures.bounds.0 c.requires.cell
