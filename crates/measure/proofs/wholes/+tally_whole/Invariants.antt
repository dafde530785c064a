use Rattle.std.proofs.Common.{◌≡◌, ◌+◌, ◌*◌, Bool}
use Rattle.vw_cell.specs.declared.cells.Cell.{Cell}
use Rattle.node_words.specs.descent.Answers.{AreRight}
use Rattle.node_words.specs.descent.Parts.{whole_of}
use Rattle.measure.specs.Tallies.{IsWholeTally}
use Rattle.measure.proofs.TallyLaws.{tallied}
use Rattle.measure.proofs.wholes.+tally_whole.Given as goal

abbrev pub decreases-tally_whole : goal.decreases-tally_whole
decreases-tally_whole g l = 3 * l.of.level + 2

abbrev pub decreases-tally_something : goal.decreases-tally_something
decreases-tally_something g l = 3 * l.of.level + 1

abbrev pub decreases-tally_whole_octants : goal.decreases-tally_whole_octants
decreases-tally_whole_octants g l = 3 * l.of.level

abbrev pub invariant-tally_whole_octants-loop-octant : goal.invariant-tally_whole_octants-loop-octant
invariant-tally_whole_octants-loop-octant g l =
    let seen = g.B.Blocks.seen in
    let counts = g.S.Subject.counts in
    record {
      number : (test : Cell → Bool)
          → counts (seen l.fn.store).held l.fn.of.level l.fn.of.subject test
          → l.number ≡ tallied l.fn.of.level (whole_of l.fn.of.level) test l.octant;
      right : AreRight (IsWholeTally counts) (seen l.fn.store).held l.answers.places;
      same : seen l.store ≡ seen l.fn.store;
      rests : g.B.Blocks.rests l.fn.store l.store;
    }
