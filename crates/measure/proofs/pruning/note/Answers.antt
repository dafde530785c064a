use Rattle.measure.proofs.PruningLaws.{widened_within}
use Rattle.measure.proofs.pruning.note.Goals as goal

pub returns-in-Some : goal.returns-in-Some
returns-in-Some g c held found right widens =
    c.keep.ensures held right
    (widened_within g.S.Subject.counts held c.args.subject c.args.place c.in-Some.b c.part_at.result found c.args.wide c.in-Some.is (record { from = c.part_at.ensures.from; to = c.part_at.ensures.to }) widens)
