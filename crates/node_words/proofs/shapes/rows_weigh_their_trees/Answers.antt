use Rattle.node_words.proofs.OfShapes.WeightLaws.{weight_below-put}
use Rattle.node_words.proofs.shapes.rows_weigh_their_trees.Goals as goal

pub returns : goal.returns
returns c = weight_below-put
