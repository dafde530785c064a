-- The sixteen tests of a layer are the lanes of one comparison.
use Rattle.std.proofs.Common.{rules, lit≤}
use Rattle.std.proofs.lemmas.Simd.{bitmask_splat}
use Rattle.std.specs.Int.{w16}
use lib.Dec.{leb}
use Rattle.node_words.proofs.OfKernels.NearBits.{lanes_show, lanes_fit}
use Rattle.node_words.proofs.kernels.near_balls.layer.Goals as goal

pub returns-clause-bits : goal.returns-clause-bits
returns-clause-bits c =
    lanes_show _ c.args.lanes c.args.less c.args.most c.min-left.result c.requires.lanes
    (search rules)
    (bitmask_splat w16 leb c.args.lanes 16 c.min-left.result c.requires.lanes.sixteen (lit≤ tt))

pub returns-clause-bound : goal.returns-clause-bound
returns-clause-bound c =
    lanes_fit _ c.args.lanes c.min-left.result c.requires.lanes
    (bitmask_splat w16 leb c.args.lanes 16 c.min-left.result c.requires.lanes.sixteen (lit≤ tt))
