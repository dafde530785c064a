use Rattle.std.proofs.Common.{arith}
use Rattle.vw_cell.specs.Places.{is_in_ball}
use Rattle.edit_walk.proofs.MemoLaws.{recalls_none}
use Rattle.edit_ops.specs.Balls.{makes_ball}
use Rattle.colour.specs.Walks.{makes_tint, fill_edit}
use Rattle.colour.specs.Fills.{ball_task}
use Rattle.colour.proofs.FillLaws.{ball_planes}
use Rattle.colour.proofs.fills.rebuild_ball_tint.Goals as goal

pub rebuild_planes-requires-clause-memo : goal.rebuild_planes-requires-clause-memo
rebuild_planes-requires-clause-memo g c =
    recalls_none (makes_tint ball_task makes_ball) _ _ c.new-memo.ensures

pub rebuild_planes-requires-clause-planes : goal.rebuild_planes-requires-clause-planes
rebuild_planes-requires-clause-planes g c =
    (fill_edit (is_in_ball c.args.ball) c.args.tint, ball_planes _ c.args.side _ (omega arith))

pub returns-clause-made : goal.returns-clause-made
returns-clause-made g c =
    c.rebuild_planes.ensures.made (fill_edit (is_in_ball c.args.ball) c.args.tint)
    (ball_planes _ c.args.side _ (omega arith))
