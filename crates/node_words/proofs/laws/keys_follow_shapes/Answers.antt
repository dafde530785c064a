use Rattle.node_words.proofs.KeyLaws.{key_bucket}
use Rattle.node_words.proofs.laws.keys_follow_shapes.Goals as goal

pub returns : goal.returns
returns c = key_bucket
