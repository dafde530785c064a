use Rattle.node_words.proofs.OfDescent.BlockLaws.{root_block}
use Rattle.measure.proofs.WideningLaws.{world_extent}
use Rattle.measure.proofs.extents.bounds.Goals as goal

pub bounds_in-requires-clause-block : goal.bounds_in-requires-clause-block
bounds_in-requires-clause-block g c =
    rw (c.root_level.ensures.value, c.name_of.ensures) (root_block _ c.args.side _ c.requires.root)

pub returns-clause-extent : goal.returns-clause-extent
returns-clause-extent g c =
    world_extent _ c.root_level.result c.args.side _ _ _ c.root_level.ensures.value c.root_level.ensures.bounds.0 c.name_of.ensures c.bounds_in.ensures.extent
