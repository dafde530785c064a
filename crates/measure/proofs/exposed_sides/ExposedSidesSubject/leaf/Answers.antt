use Rattle.std.proofs.Common.{refl}
use Rattle.measure.proofs.FaceLaws.{leaf_bare}
use Rattle.measure.proofs.exposed_sides.ExposedSidesSubject.leaf.Goals as goal

pub returns-clause-bits : goal.returns-clause-bits
returns-clause-bits g c test p =
    leaf_bare c.args.self.now.direction (g.B.Blocks.seen c.args.store.now)
    (g.B.Blocks.seen c.leaf_bits-bits.new.store) c.args.self.now.block c.args.self.now.beside _ c.leaf_bits-beside.result c.next_bits.result _ test
    c.leaf_bits-bits.ensures.seen c.next_bits.ensures.bound refl c.leaf_bits-bits.ensures.bits c.leaf_bits-beside.ensures.bits c.next_bits.ensures.next p
