-- A block whose farthest cell is near enough lies in the ball.
use Rattle.std.proofs.Common.{refl}
use Rattle.node_words.proofs.OfKernels.BallBits.{all_inside}
use Rattle.node_words.proofs.kernels.balls.ball_bits.Goals as goal

pub returns-then-x-y-clause-bits : goal.returns-then-x-y-clause-bits
returns-then-x-y-clause-bits c =
    all_inside c.args.ball c.args.block _ _ _ _ _ refl c.if-x-y.true
    (cc) c.farthest-x.ensures.above c.farthest-y.ensures.above c.farthest-z.ensures.above
