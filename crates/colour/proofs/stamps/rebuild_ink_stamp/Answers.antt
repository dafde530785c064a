use Rattle.std.proofs.Common.{◌≡◌, ◌-◌, arith}
use Rattle.edit_walk.proofs.MemoLaws.{recalls_none}
use Rattle.colour.specs.Inks.{ink_at}
use Rattle.colour.specs.Stamps.{makes_ink, ink_task}
use Rattle.colour.specs.Walks.{makes_tint, ink_edit}
use Rattle.colour.proofs.StampBlocks.{ink_planes}
use Rattle.colour.proofs.stamps.rebuild_ink_stamp.Goals as goal

pub rebuild_planes-requires-clause-memo : goal.rebuild_planes-requires-clause-memo
rebuild_planes-requires-clause-memo g c =
    recalls_none (makes_tint ink_task makes_ink) _ _ c.new-memo.ensures

pub rebuild_planes-requires-clause-planes : goal.rebuild_planes-requires-clause-planes
rebuild_planes-requires-clause-planes g c =
    let level : c.root_level-root.result - 2 ≡ c.args.side - 2 - 2 = omega arith in (
      ink_edit (ink_at c.args.stencil.now c.args.at),
      ink_planes _ c.args.side _ (omega arith) level (omega arith, omega arith, omega arith),
    )

pub rebuild_planes-requires-2-clause-memo : goal.rebuild_planes-requires-2-clause-memo
rebuild_planes-requires-2-clause-memo g c =
    recalls_none (makes_tint ink_task makes_ink) _ _ c.new-memo-2.ensures

pub rebuild_planes-requires-2-clause-planes : goal.rebuild_planes-requires-2-clause-planes
rebuild_planes-requires-2-clause-planes g c =
    let level : c.root_level-root.result - 2 ≡ c.args.side - 2 - 2 = omega arith in (
      ink_edit (ink_at c.args.stencil.now c.args.at),
      ink_planes _ c.args.side _ (omega arith) level (omega arith, omega arith, omega arith),
    )

pub returns-then-is_small-clause-made : goal.returns-then-is_small-clause-made
returns-then-is_small-clause-made g c =
    let level : c.root_level-root.result - 2 ≡ c.args.side - 2 - 2 = omega arith in
    c.rebuild_planes.ensures.made (ink_edit (ink_at c.args.stencil.now c.args.at))
    (ink_planes _ c.args.side _ (omega arith) level (omega arith, omega arith, omega arith))

pub returns-clause-made : goal.returns-clause-made
returns-clause-made g c =
    let level : c.root_level-root.result - 2 ≡ c.args.side - 2 - 2 = omega arith in
    c.rebuild_planes-2.ensures.made (ink_edit (ink_at c.args.stencil.now c.args.at))
    (ink_planes _ c.args.side _ (omega arith) level (omega arith, omega arith, omega arith))
