use Rattle.node_words.proofs.OfShapes.BucketLaws.{shape_bucket_below}
use Rattle.node_words.proofs.shapes.shapes_have_buckets.Goals as goal

pub returns : goal.returns
returns c = shape_bucket_below
