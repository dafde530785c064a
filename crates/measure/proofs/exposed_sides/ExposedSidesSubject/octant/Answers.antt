use Rattle.measure.proofs.FaceLaws.{from_there, octant_bare}
use Rattle.measure.proofs.exposed_sides.ExposedSidesSubject.octant.Goals as goal

pub octant_name-beside-requires-clause-block : goal.octant_name-beside-requires-clause-block
octant_name-beside-requires-clause-block g c =
    from_there c.args.self.now.direction (g.B.Blocks.seen c.args.store.now)
    (g.B.Blocks.seen c.octant_name-block.new.store) c.args.level c.args.octant c.args.self.now.block c.args.self.now.beside _ c.stays.result _
    c.octant_name-block.ensures.seen c.stays.ensures c.either-from.ensures c.requires.block.1

pub returns-clause-octant : goal.returns-clause-octant
returns-clause-octant g c test p =
    octant_bare c.args.self.now.direction (g.B.Blocks.seen c.args.store.now)
    (g.B.Blocks.seen c.octant_name-block.new.store) c.args.level c.args.octant c.across.result c.args.self.now.block c.args.self.now.beside c.either-from.result _ _ c.stays.result test
    c.octant_name-block.ensures.seen c.stays.ensures c.either-from.ensures c.across.ensures.octant c.requires.level c.requires.octant c.octant_name-block.ensures.octant c.octant_name-beside.ensures.octant p
