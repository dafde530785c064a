use Rattle.colour.proofs.BoundLaws.{half_there, octant_there_at}
use Rattle.store_run.proofs.TintChanges.{plane_block}
use Rattle.store_run.proofs.tint_changes.plane_of.Goals as goal

pub octant_name-half-requires-clause-block : goal.octant_name-half-requires-clause-block
octant_name-half-requires-clause-block g c =
    half_there _ c.args.side _ _ _ c.root_level-level.ensures.value c.name_of.ensures
    c.requires.root

pub octant_name-requires-clause-block : goal.octant_name-requires-clause-block
octant_name-requires-clause-block g c =
    octant_there_at _ _ c.root_level-level.result 1 _ _ c.octant_name-half.ensures.seen
    (half_there _ c.args.side _ _ _ c.root_level-level.ensures.value c.name_of.ensures
    c.requires.root) c.octant_name-half.ensures.octant

pub returns-clause-plane : goal.returns-clause-plane
returns-clause-plane g c =
    plane_block _ _ c.args.side c.root_level-level.result c.args.bit _ _ _ _ c.requires.large
    c.root_level-level.ensures.value c.name_of.ensures c.octant_name-half.ensures.seen
    c.octant_name-half.ensures.octant c.octant_name.ensures.octant
