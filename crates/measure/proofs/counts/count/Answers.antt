use Rattle.std.proofs.Common.{arith}
use Rattle.node_words.proofs.OfDescent.PartLaws.{box_in_root}
use Rattle.measure.proofs.SubjectLaws.{root_set, set_in_root}
use Rattle.measure.proofs.counts.count.Goals as goal

pub tally-requires : goal.tally-requires
tally-requires g c = (
  omega arith,
  (
    omega arith,
    (
      omega (arith, c.root_level-level.ensures.value, c.root_level-level.ensures.bounds.1),
      (
        root_set _ c.args.side _ _ _ c.root_level-level.ensures.value c.name_of.ensures c.requires.root,
        (
          box_in_root _ c.args.side c.args.b c.root_level-level.ensures.value c.root_level-level.ensures.bounds.0 c.requires.inside,
          (c.new-answers.ensures _, c.new-wholes.ensures _),
        ),
      ),
    ),
  ),
)

pub returns-clause-number : goal.returns-clause-number
returns-clause-number g c =
    set_in_root _ c.args.side _ _ _ c.args.b _ c.root_level-level.ensures.value c.name_of.ensures c.tally.ensures.number
