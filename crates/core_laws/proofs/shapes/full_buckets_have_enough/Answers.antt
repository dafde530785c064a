use Rattle.core_laws.proofs.Enough.{enough}
use Rattle.core_laws.proofs.shapes.full_buckets_have_enough.Goals as goal

pub returns : goal.returns
returns c = λ p state level bucket made s full has. enough p state level bucket s full made has
