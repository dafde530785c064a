use Rattle.std.proofs.Common.{◌≡◌, Bool}
use Rattle.vw_cell.specs.declared.cells.Cell.{Cell}
use Rattle.node_words.specs.descent.Parts.{whole_of}
use Rattle.measure.proofs.TallyLaws.{tallied}
use Rattle.measure.proofs.wholes.tally_leaves.Given as goal

abbrev pub invariant-loop-octant : goal.invariant-loop-octant
invariant-loop-octant g l =
    (test : Cell → Bool)
    → g.S.Subject.counts (g.B.Blocks.seen l.fn.store).held l.fn.of.level l.fn.of.subject test
    → l.number ≡ tallied l.fn.of.level (whole_of l.fn.of.level) test l.octant
