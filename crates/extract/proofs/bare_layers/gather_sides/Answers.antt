use Rattle.std.proofs.Common.{refl}
use Rattle.vw_cell.specs.declared.directions.Direction.{Direction}
use Rattle.vw_cell.specs.declared.directions.Direction.TheVariants.{LowX, HighX, LowY, HighY, LowZ, HighZ}
use Rattle.measure.proofs.WideningLaws.{root_lies}
use Rattle.extract.proofs.SideLaws.{world_filled, world_sides}
use Rattle.extract.proofs.bare_layers.gather_sides.Goals as goal

pub fill_sides-requires-clause-block : goal.fill_sides-requires-clause-block
fill_sides-requires-clause-block g c =
    world_sides (g.B.Blocks.seen c.args.store.now).held c.args.level c.args.block c.world-subject.result c.world-subject.ensures c.requires.block

pub fill_sides-requires-clause-inside : goal.fill_sides-requires-clause-inside
fill_sides-requires-clause-inside g c = root_lies c.args.level c.requires.level

pub returns-clause-layer : goal.returns-clause-layer
returns-clause-layer g c t o =
    let told =
    λ (d : Direction). world_filled d (g.B.Blocks.seen c.args.store.now).held c.args.level _ c.args.z c.args.block c.world-subject.result c.args.b _ _
    (c.world-subject.ensures d) c.requires.b c.requires.ends c.requires.z refl (c.clear_words.ensures.zeros d) (c.fill_sides.ensures.fills d) t o in
    record {
      low_x = told LowX;
      high_x = told HighX;
      low_y = told LowY;
      high_y = told HighY;
      low_z = told LowZ;
      high_z = told HighZ;
    }
