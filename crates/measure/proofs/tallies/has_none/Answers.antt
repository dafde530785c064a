use Rattle.std.proofs.Common.{arith, refl}
use Rattle.std.proofs.lemmas.Bool.{eqb-true}
use Rattle.measure.proofs.WholeLaws.{none_of_part}
use Rattle.measure.proofs.tallies.has_none.Goals as goal

pub returns-in-Some-clause-none : goal.returns-in-Some-clause-none
returns-in-Some-clause-none g c is =
    none_of_part g.S.Subject.counts (g.B.Blocks.seen c.args.store.now)
    (g.B.Blocks.seen c.args.store.now) c.args.of.now.level c.in-Some.number c.args.of.now.subject c.args.of.now.part _ refl c.block_of-whole.ensures (eqb-true _ _ is) c.requires.part (c.in-Some.ensures _ c.requires.wholes)

pub returns-clause-none : goal.returns-clause-none
returns-clause-none g c is =
    none_of_part g.S.Subject.counts (g.B.Blocks.seen c.args.store.now)
    (g.B.Blocks.seen c.has_alike_octants.new.store) c.args.of.now.level c.tally_whole-number.result c.args.of.now.subject c.args.of.now.part _ c.has_alike_octants.ensures.seen c.block_of-whole.ensures (omega arith) c.requires.part c.tally_whole-number.ensures.number
