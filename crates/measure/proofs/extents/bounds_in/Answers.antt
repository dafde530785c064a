use Rattle.std.proofs.Common.{arith}
use Rattle.measure.proofs.SubjectLaws.{some_set}
use Rattle.measure.proofs.WideningLaws.{block_extent, root_lies}
use Rattle.measure.proofs.extents.bounds_in.Goals as goal

pub widen-requires : goal.widen-requires
widen-requires g c = (
  omega arith,
  (
    c.requires.level,
    (
      some_set _ c.args.level c.args.block c.requires.block,
      (root_lies _ c.requires.level, (omega arith, (tt, c.new-answers.ensures _))),
    ),
  ),
)

pub returns-clause-extent : goal.returns-clause-extent
returns-clause-extent g c = block_extent _ c.args.level _ _ c.widen.ensures.widens
