-- What a fill with a tint makes of each plane.
use Rattle.std.specs.Prelude.{ℕ, Option}
use Rattle.node_words.specs.declared.shapes.names.Name.{Name}
use Rattle.edit_ops.specs.declared.boxes.BoxTask.{BoxTask}
use Rattle.edit_ops.specs.declared.balls.BallTask.{BallTask}
use Rattle.edit_ops.specs.Balls.{world_task}
use Rattle.history_model.specs.Planes.{tells}
use Rattle.colour.specs.declared.fills.BoxPlanes.{BoxPlanes}
use Rattle.colour.specs.declared.fills.BallPlanes.{BallPlanes}

-- the task of a plane whose old block this is, for a box
abbrev pub box_task : BoxPlanes → ℕ → Option Name → BoxTask
box_task p k old = record { old = old; part = p.b; set = tells k p.tint }

-- and for a ball
abbrev pub ball_task : BallPlanes → ℕ → Option Name → BallTask
ball_task p k old = world_task old p.ball.now (tells k p.tint)
