use Rattle.std.proofs.Common.{◌≡◌, ◌+◌, ◌*◌, Bool}
use Rattle.vw_cell.specs.declared.cells.Cell.{Cell}
use Rattle.node_words.specs.descent.Answers.{AreRight}
use Rattle.measure.specs.Tallies.{IsTally, IsWholeTally}
use Rattle.measure.proofs.TallyLaws.{tallied}
use Rattle.measure.proofs.tallies.+tally.Given as goal

abbrev pub decreases-tally : goal.decreases-tally
decreases-tally g l = 4 * l.of.now.level + 3

abbrev pub decreases-tally_some : goal.decreases-tally_some
decreases-tally_some g l = 4 * l.of.now.level + 2

abbrev pub decreases-tally_octants : goal.decreases-tally_octants
decreases-tally_octants g l = 4 * l.of.now.level + 1

abbrev pub decreases-tally_octant : goal.decreases-tally_octant
decreases-tally_octant g l = 4 * l.of.now.level

abbrev pub invariant-tally_octants-loop-octant : goal.invariant-tally_octants-loop-octant
invariant-tally_octants-loop-octant g l =
    let seen = g.B.Blocks.seen in
    let counts = g.S.Subject.counts in
    record {
      number : (test : Cell → Bool)
          → counts (seen l.fn.store).held l.fn.of.level l.fn.of.subject test
          → l.number ≡ tallied l.fn.of.level l.fn.of.part test l.octant;
      right : AreRight (IsTally counts) (seen l.fn.store).held l.answers.places;
      wholes : AreRight (IsWholeTally counts) (seen l.fn.store).held l.wholes.places;
      same : seen l.store ≡ seen l.fn.store;
      rests : g.B.Blocks.rests l.fn.store l.store;
    }
