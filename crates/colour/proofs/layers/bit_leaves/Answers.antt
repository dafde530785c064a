use Rattle.std.proofs.Common.{◌-◌, ◌/◌, ◌+◌, arith}
use Rattle.extract.proofs.LeafLaws.{small_box}
use Rattle.colour.proofs.BoundLaws.{half_there, octant_there_at, bit_there}
use Rattle.colour.proofs.LayerLaws.{bit_layer, ends_there}
use Rattle.colour.proofs.layers.bit_leaves.Goals as goal

pub octant_name-half-requires-clause-block : goal.octant_name-half-requires-clause-block
octant_name-half-requires-clause-block g c =
    half_there _ c.args.side _ _ _ c.root_level-level.ensures.value c.name_of.ensures c.requires.root

pub octant_name-block-requires-clause-block : goal.octant_name-block-requires-clause-block
octant_name-block-requires-clause-block g c =
    octant_there_at _ _ c.root_level-level.result 1 _ _ c.octant_name-half.ensures.seen
    (half_there _ c.args.side _ _ _ c.root_level-level.ensures.value c.name_of.ensures c.requires.root)
    c.octant_name-half.ensures.octant

pub gather-requires-clause-block : goal.gather-requires-clause-block
gather-requires-clause-block g c =
    bit_there _ _ _ c.root_level-level.result c.args.bit _ _ _ c.octant_name-half.ensures.seen
    c.octant_name-block.ensures.seen
    (half_there _ c.args.side _ _ _ c.root_level-level.ensures.value c.name_of.ensures c.requires.root)
    c.octant_name-half.ensures.octant c.octant_name-block.ensures.octant

pub gather-requires-clause-b : goal.gather-requires-clause-b
gather-requires-clause-b g c =
    small_box (c.args.side - 2) c.args.b (omega arith) c.requires.inside c.requires.small.0
    c.requires.small.1 c.requires.small.2

pub gather-requires-clause-ends : goal.gather-requires-clause-ends
gather-requires-clause-ends g c =
    ends_there c.args.side c.root_level-level.result c.args.b c.requires.large
    c.root_level-level.ensures.value c.requires.inside

pub returns-clause-leaves : goal.returns-clause-leaves
returns-clause-leaves g c =
    bit_layer _ _ _ c.args.side c.root_level-level.result c.args.bit _ _ _ _ _ c.args.b
    ((c.args.b.at.z + c.args.z) / 4) c.requires.large c.root_level-level.ensures.value
    c.name_of.ensures c.octant_name-half.ensures.seen c.octant_name-block.ensures.seen
    c.octant_name-half.ensures.octant c.octant_name-block.ensures.octant c.gather.ensures.layer
