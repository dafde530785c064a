use Rattle.conformance.proofs.OfPossible.ContentBuckets.{bucket_of_content}
use Rattle.conformance.proofs.possible.contents_have_buckets.Goals as goal

pub returns : goal.returns
returns c = bucket_of_content
