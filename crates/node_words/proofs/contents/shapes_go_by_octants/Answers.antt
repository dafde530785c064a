use Rattle.node_words.proofs.OfContents.SameCells.{by_octants, octant_same}
use Rattle.node_words.proofs.OfContents.CellShapeLaws.{shape_with-octant}
use Rattle.node_words.proofs.contents.shapes_go_by_octants.Goals as goal

pub returns-clause-octant : goal.returns-clause-octant
returns-clause-octant c = shape_with-octant

pub returns-clause-down : goal.returns-clause-down
returns-clause-down c = octant_same

pub returns-clause-up : goal.returns-clause-up
returns-clause-up c = by_octants
