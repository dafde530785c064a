use Rattle.std.proofs.Common.{rules}
use Rattle.extract.proofs.SideLaws.{one_side}
use Rattle.extract.proofs.surrounded.Surrounded.hides.Goals as goal

pub passes_none-requires : goal.passes_none-requires
passes_none-requires g c = (
  (search rules),
  (
    c.requires.level,
    (
      one_side (g.B.Blocks.seen c.args.store.now).held c.args.level c.args.self.now c.args.direction _ c.sided-towards.ensures c.requires.block,
      c.requires.wholes,
    ),
  ),
)
