-- The sixteen sums of a layer, as they are computed.
use Rattle.node_words.proofs.OfKernels.NearBits.{sums_are}
use Rattle.node_words.proofs.kernels.near_balls.sums.Goals as goal

pub returns : goal.returns
returns c = sums_are c.args.x c.args.y c.requires.x c.requires.y
