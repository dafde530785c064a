use Rattle.node_words.proofs.OfDescent.BlockLaws.{root_block}
use Rattle.measure.proofs.ChangeLaws.{world_changed}
use Rattle.measure.proofs.differences.changes.Goals as goal

pub changes_in-requires-clause-before : goal.changes_in-requires-clause-before
changes_in-requires-clause-before g c =
    rw (c.root_level.ensures.value, c.name_of.ensures) (root_block _ c.args.side _ c.requires.before)

pub changes_in-requires-clause-after : goal.changes_in-requires-clause-after
changes_in-requires-clause-after g c =
    rw (c.root_level.ensures.value, c.name_of-2.ensures) (root_block _ c.args.side _ c.requires.after)

pub returns-clause-extent : goal.returns-clause-extent
returns-clause-extent g c =
    world_changed _ c.root_level.result c.args.side _ _ _ _ _ c.root_level.ensures.value c.root_level.ensures.bounds.0 c.name_of.ensures c.name_of-2.ensures c.changes_in.ensures.extent
