use Rattle.std.proofs.Common.{arith}
use Rattle.measure.proofs.ChangeLaws.{all_changed, some_changed, changed_extent}
use Rattle.measure.proofs.WideningLaws.{root_lies}
use Rattle.measure.proofs.differences.changes_in.Goals as goal

pub returns-then-not-is_there-clause-extent : goal.returns-then-not-is_there-clause-extent
returns-then-not-is_there-clause-extent g c =
    all_changed (g.B.Blocks.seen c.args.store.now) (g.B.Blocks.seen c.is_there.new.store) c.args.level c.args.before c.args.after _
    c.is_there.ensures.seen (c.is_there.ensures.none c.if-not-is_there.true) c.bounds_in.ensures.extent

pub widen-requires : goal.widen-requires
widen-requires g c = (
  omega arith,
  (
    c.requires.level,
    (
      some_changed (g.B.Blocks.seen c.args.store.now) (g.B.Blocks.seen c.is_there.new.store) c.args.level c.args.before c.args.after
          c.is_there.ensures.seen (c.is_there.ensures.named c.if-not-is_there.false) c.requires.before c.requires.after,
      (root_lies _ c.requires.level, (omega arith, (tt, c.new-answers.ensures _))),
    ),
  ),
)

pub returns-clause-extent : goal.returns-clause-extent
returns-clause-extent g c =
    changed_extent (g.B.Blocks.seen c.args.store.now) (g.B.Blocks.seen c.is_there.new.store) c.args.level c.args.before c.args.after _
    c.is_there.ensures.seen (c.is_there.ensures.named c.if-not-is_there.false) c.widen.ensures.widens
