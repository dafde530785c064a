use Rattle.std.proofs.Common.{arith}
use Rattle.vw_cell.specs.Places.{is_in_box}
use Rattle.edit_walk.proofs.MemoLaws.{recalls_none}
use Rattle.edit_ops.specs.Boxes.{MakesBox}
use Rattle.colour.specs.Walks.{makes_tint, fill_edit}
use Rattle.colour.specs.Fills.{box_task}
use Rattle.colour.proofs.FillLaws.{box_planes}
use Rattle.colour.proofs.fills.rebuild_box_tint.Goals as goal

pub rebuild_planes-requires-clause-memo : goal.rebuild_planes-requires-clause-memo
rebuild_planes-requires-clause-memo g c =
    recalls_none (makes_tint box_task MakesBox) _ _ c.new-memo.ensures

pub rebuild_planes-requires-clause-planes : goal.rebuild_planes-requires-clause-planes
rebuild_planes-requires-clause-planes g c = (
  fill_edit (is_in_box c.args.b) c.args.tint,
  box_planes _ c.args.side
      (record { b = c.args.b; tint = c.args.tint }) (omega arith),
)

pub rebuild_planes-requires-2-clause-memo : goal.rebuild_planes-requires-2-clause-memo
rebuild_planes-requires-2-clause-memo g c =
    recalls_none (makes_tint box_task MakesBox) _ _ c.new-memo-2.ensures

pub rebuild_planes-requires-2-clause-planes : goal.rebuild_planes-requires-2-clause-planes
rebuild_planes-requires-2-clause-planes g c = (
  fill_edit (is_in_box c.args.b) c.args.tint,
  box_planes _ c.args.side
      (record { b = c.args.b; tint = c.args.tint }) (omega arith),
)

pub returns-then-may_repeat-clause-made : goal.returns-then-may_repeat-clause-made
returns-then-may_repeat-clause-made g c =
    c.rebuild_planes.ensures.made (fill_edit (is_in_box c.args.b) c.args.tint)
    (box_planes _ c.args.side (record { b = c.args.b; tint = c.args.tint }) (omega arith))

pub returns-clause-made : goal.returns-clause-made
returns-clause-made g c =
    c.rebuild_planes-2.ensures.made (fill_edit (is_in_box c.args.b) c.args.tint)
    (box_planes _ c.args.side (record { b = c.args.b; tint = c.args.tint }) (omega arith))
