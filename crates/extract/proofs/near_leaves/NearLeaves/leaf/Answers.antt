use Rattle.std.proofs.Common.{Bool}
use Rattle.vw_cell.specs.declared.cells.Cell.{Cell}
use Rattle.vw_cell.specs.declared.directions.Direction.TheVariants.{LowX, HighX, LowY, HighY, LowZ, HighZ}
use Rattle.measure.specs.Faces.{passes_exposed}
use Rattle.measure.specs.Leaves.{BitsPassTest}
use Rattle.measure.specs.Tallies.{in_octant}
use Rattle.extract.specs.Sides.{leaf_towards, sided}
use Rattle.extract.proofs.NearLaws.{near_leaf}
use Rattle.extract.proofs.SideLaws.{each_way}
use Rattle.extract.proofs.near_leaves.NearLeaves.leaf.Goals as goal

pub returns : goal.returns
returns c held s are =
    let near = c.args.self.now in
    let k = c.args.octant in
    let lt = c.requires in
    each_way
    (λ d. (test : Cell → Bool) → passes_exposed held 1 (sided s d) test
    → BitsPassTest (leaf_towards (record {
      low_x = c.bare_bits-low_x.result;
      high_x = c.bare_bits-high_x.result;
      low_y = c.bare_bits-low_y.result;
      high_y = c.bare_bits-high_y.result;
      low_z = c.bare_bits-low_z.result;
      high_z = c.bare_bits-high_z.result;
    }) d) (in_octant 1 k test))
    (near_leaf held s near k c.bare_bits-low_x.result LowX lt are c.bare_bits-low_x.ensures)
    (near_leaf held s near k c.bare_bits-high_x.result HighX lt are c.bare_bits-high_x.ensures)
    (near_leaf held s near k c.bare_bits-low_y.result LowY lt are c.bare_bits-low_y.ensures)
    (near_leaf held s near k c.bare_bits-high_y.result HighY lt are c.bare_bits-high_y.ensures)
    (near_leaf held s near k c.bare_bits-low_z.result LowZ lt are c.bare_bits-low_z.ensures)
    (near_leaf held s near k c.bare_bits-high_z.result HighZ lt are c.bare_bits-high_z.ensures)
