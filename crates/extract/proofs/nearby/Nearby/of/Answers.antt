use Rattle.std.proofs.Common.{◌∙◌}
use Rattle.vw_cell.specs.declared.directions.Direction.TheVariants.{LowX, HighX, LowY, HighY, LowZ, HighZ}
use Rattle.extract.proofs.SideLaws.{beside_still, block_of_sides, names_still}
use Rattle.extract.proofs.nearby.Nearby.of.Goals as goal

pub octant_names-block-requires-clause-block : goal.octant_names-block-requires-clause-block
octant_names-block-requires-clause-block g c =
    block_of_sides (g.B.Blocks.seen c.args.store.now).held c.args.level c.args.subject.now
    c.requires.block

pub names_beside-low_x-requires-clause-names : goal.names_beside-low_x-requires-clause-names
names_beside-low_x-requires-clause-names g c =
    names_still (g.B.Blocks.seen c.args.store.now) (g.B.Blocks.seen c.octant_names-block.new.store)
    c.args.level c.args.subject.now.block _ (c.octant_names-block.ensures.seen)
    c.octant_names-block.ensures.octants

pub names_beside-low_x-requires-clause-beside : goal.names_beside-low_x-requires-clause-beside
names_beside-low_x-requires-clause-beside g c =
    beside_still (g.B.Blocks.seen c.args.store.now) (g.B.Blocks.seen c.octant_names-block.new.store)
    c.args.level c.args.subject.now LowX (c.octant_names-block.ensures.seen)
    c.requires.block

pub names_beside-high_x-requires-clause-names : goal.names_beside-high_x-requires-clause-names
names_beside-high_x-requires-clause-names g c =
    names_still (g.B.Blocks.seen c.args.store.now) (g.B.Blocks.seen c.names_beside-low_x.new.store)
    c.args.level c.args.subject.now.block _ (c.names_beside-low_x.ensures.seen ∙ c.octant_names-block.ensures.seen)
    c.octant_names-block.ensures.octants

pub names_beside-high_x-requires-clause-beside : goal.names_beside-high_x-requires-clause-beside
names_beside-high_x-requires-clause-beside g c =
    beside_still (g.B.Blocks.seen c.args.store.now) (g.B.Blocks.seen c.names_beside-low_x.new.store)
    c.args.level c.args.subject.now HighX (c.names_beside-low_x.ensures.seen ∙ c.octant_names-block.ensures.seen)
    c.requires.block

pub names_beside-low_y-requires-clause-names : goal.names_beside-low_y-requires-clause-names
names_beside-low_y-requires-clause-names g c =
    names_still (g.B.Blocks.seen c.args.store.now) (g.B.Blocks.seen c.names_beside-high_x.new.store)
    c.args.level c.args.subject.now.block _ (c.names_beside-high_x.ensures.seen ∙ c.names_beside-low_x.ensures.seen ∙ c.octant_names-block.ensures.seen)
    c.octant_names-block.ensures.octants

pub names_beside-low_y-requires-clause-beside : goal.names_beside-low_y-requires-clause-beside
names_beside-low_y-requires-clause-beside g c =
    beside_still (g.B.Blocks.seen c.args.store.now) (g.B.Blocks.seen c.names_beside-high_x.new.store)
    c.args.level c.args.subject.now LowY (c.names_beside-high_x.ensures.seen ∙ c.names_beside-low_x.ensures.seen ∙ c.octant_names-block.ensures.seen)
    c.requires.block

pub names_beside-high_y-requires-clause-names : goal.names_beside-high_y-requires-clause-names
names_beside-high_y-requires-clause-names g c =
    names_still (g.B.Blocks.seen c.args.store.now) (g.B.Blocks.seen c.names_beside-low_y.new.store)
    c.args.level c.args.subject.now.block _ (c.names_beside-low_y.ensures.seen ∙ c.names_beside-high_x.ensures.seen ∙ c.names_beside-low_x.ensures.seen ∙ c.octant_names-block.ensures.seen)
    c.octant_names-block.ensures.octants

pub names_beside-high_y-requires-clause-beside : goal.names_beside-high_y-requires-clause-beside
names_beside-high_y-requires-clause-beside g c =
    beside_still (g.B.Blocks.seen c.args.store.now) (g.B.Blocks.seen c.names_beside-low_y.new.store)
    c.args.level c.args.subject.now HighY (c.names_beside-low_y.ensures.seen ∙ c.names_beside-high_x.ensures.seen ∙ c.names_beside-low_x.ensures.seen ∙ c.octant_names-block.ensures.seen)
    c.requires.block

pub names_beside-low_z-requires-clause-names : goal.names_beside-low_z-requires-clause-names
names_beside-low_z-requires-clause-names g c =
    names_still (g.B.Blocks.seen c.args.store.now) (g.B.Blocks.seen c.names_beside-high_y.new.store)
    c.args.level c.args.subject.now.block _ (c.names_beside-high_y.ensures.seen ∙ c.names_beside-low_y.ensures.seen ∙ c.names_beside-high_x.ensures.seen ∙ c.names_beside-low_x.ensures.seen ∙ c.octant_names-block.ensures.seen)
    c.octant_names-block.ensures.octants

pub names_beside-low_z-requires-clause-beside : goal.names_beside-low_z-requires-clause-beside
names_beside-low_z-requires-clause-beside g c =
    beside_still (g.B.Blocks.seen c.args.store.now) (g.B.Blocks.seen c.names_beside-high_y.new.store)
    c.args.level c.args.subject.now LowZ (c.names_beside-high_y.ensures.seen ∙ c.names_beside-low_y.ensures.seen ∙ c.names_beside-high_x.ensures.seen ∙ c.names_beside-low_x.ensures.seen ∙ c.octant_names-block.ensures.seen)
    c.requires.block

pub names_beside-high_z-requires-clause-names : goal.names_beside-high_z-requires-clause-names
names_beside-high_z-requires-clause-names g c =
    names_still (g.B.Blocks.seen c.args.store.now) (g.B.Blocks.seen c.names_beside-low_z.new.store)
    c.args.level c.args.subject.now.block _ (c.names_beside-low_z.ensures.seen ∙ c.names_beside-high_y.ensures.seen ∙ c.names_beside-low_y.ensures.seen ∙ c.names_beside-high_x.ensures.seen ∙ c.names_beside-low_x.ensures.seen ∙ c.octant_names-block.ensures.seen)
    c.octant_names-block.ensures.octants

pub names_beside-high_z-requires-clause-beside : goal.names_beside-high_z-requires-clause-beside
names_beside-high_z-requires-clause-beside g c =
    beside_still (g.B.Blocks.seen c.args.store.now) (g.B.Blocks.seen c.names_beside-low_z.new.store)
    c.args.level c.args.subject.now HighZ (c.names_beside-low_z.ensures.seen ∙ c.names_beside-high_y.ensures.seen ∙ c.names_beside-low_y.ensures.seen ∙ c.names_beside-high_x.ensures.seen ∙ c.names_beside-low_x.ensures.seen ∙ c.octant_names-block.ensures.seen)
    c.requires.block

pub returns-clause-rests : goal.returns-clause-rests
returns-clause-rests g c =
    g.met.B.Blocks.rests_on _ _ _ (g.met.B.Blocks.rests_on _ _ _ (g.met.B.Blocks.rests_on _ _ _ (g.met.B.Blocks.rests_on _ _ _ (g.met.B.Blocks.rests_on _ _ _ (g.met.B.Blocks.rests_on _ _ _ c.octant_names-block.ensures.rests c.names_beside-low_x.ensures.rests) c.names_beside-high_x.ensures.rests) c.names_beside-low_y.ensures.rests) c.names_beside-high_y.ensures.rests) c.names_beside-low_z.ensures.rests) c.names_beside-high_z.ensures.rests
