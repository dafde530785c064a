use Rattle.edit_ops.proofs.BallLaws.{ball_same}
use Rattle.edit_ops.proofs.balls.BallTaskRepeats.is_same.Goals as goal

pub returns : goal.returns
returns c e base level p q m n =
    let (old, ball, at, set) = c.same_tasks.ensures e in
    ball_same base level _ _ _ _ _ _ _ _ _ _ _ _ p q old ball at set m n
