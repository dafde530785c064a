use Rattle.node_words.proofs.OfShapes.ShowLaws.{octant_shows, octants_show}
use Rattle.node_words.proofs.shapes.octants_show_their_cells.Goals as goal

pub returns-clause-down : goal.returns-clause-down
returns-clause-down c = octant_shows

pub returns-clause-up : goal.returns-clause-up
returns-clause-up c = octants_show
