use Rattle.extract.proofs.SideLaws.{one_side}
use Rattle.extract.proofs.surrounded.Surrounded.bits.Goals as goal

pub leaf-requires : goal.leaf-requires
leaf-requires g c =
    one_side (g.B.Blocks.seen c.args.store.now).held 0 c.args.self.now c.args.direction _ c.sided-towards.ensures c.requires.block
