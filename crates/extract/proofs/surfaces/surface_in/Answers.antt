use Rattle.node_words.proofs.OfDescent.BlockLaws.{root_block}
use Rattle.node_words.proofs.OfDescent.PartLaws.{box_in_root}
use Rattle.extract.proofs.LeafLaws.{small_box}
use Rattle.extract.proofs.SurfaceLaws.{world_surface}
use Rattle.extract.proofs.surfaces.surface_in.Goals as goal

pub slabs_in-requires-clause-block : goal.slabs_in-requires-clause-block
slabs_in-requires-clause-block g c =
    rw (c.root_level.ensures.value, c.name_of.ensures) (root_block _ c.args.side _ c.requires.root)

pub slabs_in-requires-clause-b : goal.slabs_in-requires-clause-b
slabs_in-requires-clause-b g c =
    small_box c.args.side c.args.b c.root_level.ensures.bounds.1 c.requires.inside c.requires.small.0 c.requires.small.1 c.requires.small.2

pub slabs_in-requires-clause-ends : goal.slabs_in-requires-clause-ends
slabs_in-requires-clause-ends g c =
    box_in_root _ c.args.side c.args.b c.root_level.ensures.value c.root_level.ensures.bounds.0 c.requires.inside

pub returns-then-slabs_in-clause-voxels : goal.returns-then-slabs_in-clause-voxels
returns-then-slabs_in-clause-voxels g c =
    world_surface _ c.root_level.result c.args.side _ _ c.args.b _ _ c.root_level.ensures.value c.root_level.ensures.bounds.0 c.name_of.ensures (c.slabs_in.ensures.voxels c.if-slabs_in.true)
