-- The four layers of a leaf show its cells.
use Rattle.std.proofs.Common.{rules}
use Rattle.node_words.proofs.OfKernels.NearBits.{near_shows}
use Rattle.node_words.proofs.kernels.near_balls.near_bits.Goals as goal

pub returns-clause-bits : goal.returns-clause-bits
returns-clause-bits c =
    near_shows c.args.ball c.args.block _ _ _ _ _ _ c.moved-x.result c.moved-y.result
    c.moved-z.result _ _ _ c.four.ensures.bits c.layer-a.ensures.bits c.layer-b.ensures.bits
    c.layer-c.ensures.bits c.layer-d.ensures.bits c.sums-lanes.ensures
    c.moved-x.ensures.value c.moved-y.ensures.value c.moved-z.ensures.value (search rules)
    (search rules) (search rules)
