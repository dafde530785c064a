use Rattle.measure.proofs.PruningLaws.{known_widens, some_holds}
use Rattle.measure.proofs.pruning.is_known.Goals as goal

pub returns-in-Some : goal.returns-in-Some
returns-in-Some g c is held right =
    known_widens g.S.Subject.counts held c.args.subject c.args.place c.in-Some.b c.part_at.result c.args.found c.in-Some.is (record { from = c.part_at.ensures.from; to = c.part_at.ensures.to })
    (some_holds c.find.result c.is_some.result _ c.is_some.ensures is (c.find.ensures held right))
