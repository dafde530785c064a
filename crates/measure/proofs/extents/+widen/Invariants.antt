use Rattle.std.proofs.Common.{◌≡◌, ◌+◌, ◌*◌, Bool}
use Rattle.vw_cell.specs.declared.cells.Cell.{Cell}
use Rattle.node_words.specs.descent.Answers.{AreRight}
use Rattle.measure.specs.Pruning.{tells_within}
use Rattle.measure.specs.Widening.{EndsInside, Widens, IsSetIn, IsSetInSome, IsOther, ForCounted}
use Rattle.measure.proofs.extents.+widen.Given as goal

abbrev pub decreases-widen : goal.decreases-widen
decreases-widen g l = 5 * l.place.level + 4

abbrev pub decreases-widen_by_octants : goal.decreases-widen_by_octants
decreases-widen_by_octants g l = 5 * l.place.level + 3

abbrev pub decreases-widen_by_others : goal.decreases-widen_by_others
decreases-widen_by_others g l = 5 * l.place.level + 2

abbrev pub decreases-widen_apart : goal.decreases-widen_apart
decreases-widen_apart g l = 5 * l.place.level + 1

abbrev pub decreases-widen_in : goal.decreases-widen_in
decreases-widen_in g l = 5 * l.place.level

abbrev pub invariant-widen_by_others-loop-octant : goal.invariant-widen_by_others-loop-octant
invariant-widen_by_others-loop-octant g l =
    let seen = g.B.Blocks.seen in
    let counts = g.S.Subject.counts in
    record {
      widens : ForCounted counts (seen l.fn.store).held l.fn.subject l.fn.place
          (λ cells. Widens (IsSetInSome l.fn.place cells (IsOther l.fn.corner l.octant))
          (IsSetIn l.fn.place cells) l.fn.found l.found);
      ends : EndsInside l.found;
      right : AreRight (tells_within counts) (seen l.fn.store).held l.answers.places;
      block : (test : Cell → Bool)
          × counts (seen l.store).held l.fn.place.level l.fn.subject test;
      same : seen l.store ≡ seen l.fn.store;
      rests : g.B.Blocks.rests l.fn.store l.store;
    }
