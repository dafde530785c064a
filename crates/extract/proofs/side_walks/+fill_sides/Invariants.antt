use Rattle.std.proofs.Common.{◌+◌, ◌*◌}
use Rattle.extract.proofs.side_walks.+fill_sides.Given as goal

abbrev pub decreases-fill_sides : goal.decreases-fill_sides
decreases-fill_sides g l = 3 * l.place.level + 2

abbrev pub decreases-fill_side_octants : goal.decreases-fill_side_octants
decreases-fill_side_octants g l = 3 * l.place.level + 1

abbrev pub decreases-fill_side_octant : goal.decreases-fill_side_octant
decreases-fill_side_octant g l = 3 * l.place.level
