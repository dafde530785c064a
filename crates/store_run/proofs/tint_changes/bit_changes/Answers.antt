use Rattle.std.proofs.Common.{◌∙◌}
use Rattle.store_run.proofs.TintChanges.{plane_changes, plane_held}
use Rattle.store_run.proofs.tint_changes.bit_changes.Goals as goal

pub changes_in-requires-clause-before : goal.changes_in-requires-clause-before
changes_in-requires-clause-before g c =
    plane_held _ _ c.args.side c.root_level-level.result c.args.bit _ _
    c.root_level-level.ensures.value
    (c.plane_of-new.ensures.seen ∙ c.plane_of-old.ensures.seen) c.requires.before
    c.plane_of-old.ensures.plane

pub changes_in-requires-clause-after : goal.changes_in-requires-clause-after
changes_in-requires-clause-after g c =
    plane_held _ _ c.args.side c.root_level-level.result c.args.bit _ _
    c.root_level-level.ensures.value c.plane_of-new.ensures.seen
    (rw c.plane_of-old.ensures.seen c.requires.after) c.plane_of-new.ensures.plane

pub returns-clause-extent : goal.returns-clause-extent
returns-clause-extent g c =
    plane_changes _ _ _ c.args.side c.root_level-level.result c.args.bit _ _ _ _ _ c.requires.large
    c.root_level-level.ensures.value c.plane_of-old.ensures.seen c.plane_of-new.ensures.seen
    c.plane_of-old.ensures.plane c.plane_of-new.ensures.plane c.changes_in.ensures.extent
