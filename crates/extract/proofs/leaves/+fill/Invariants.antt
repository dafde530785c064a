use Rattle.std.proofs.Common.{◌≡◌, ◌+◌, ◌*◌, Bool}
use Rattle.vw_cell.specs.declared.cells.Cell.{Cell}
use Rattle.node_words.specs.descent.Answers.{AreRight}
use Rattle.measure.specs.Tallies.{IsWholeTally}
use Rattle.measure.specs.Widening.{ForCounted}
use Rattle.extract.specs.Layers.{leaf_corner}
use Rattle.extract.specs.Filling.{Fills, IsInFirst}
use Rattle.extract.proofs.leaves.+fill.Given as goal

abbrev pub decreases-fill : goal.decreases-fill
decreases-fill g l = 3 * l.place.level + 2

abbrev pub decreases-fill_octants : goal.decreases-fill_octants
decreases-fill_octants g l = 3 * l.place.level + 1

abbrev pub decreases-fill_octant : goal.decreases-fill_octant
decreases-fill_octant g l = 3 * l.place.level

abbrev pub invariant-fill_octants-loop-octant : goal.invariant-fill_octants-loop-octant
invariant-fill_octants-loop-octant g l =
    let seen = g.B.Blocks.seen in
    let counts = g.S.Subject.counts in
    record {
      fills : ForCounted counts (seen l.fn.store).held l.fn.subject l.fn.place
          (λ cells. Fills
          (λ m. IsInFirst l.fn.place l.octant
          (leaf_corner l.fn.b l.fn.layer m)) l.fn.b l.fn.layer cells l.fn.leaves l.leaves);
      block : (test : Cell → Bool)
          × counts (seen l.store).held l.fn.place.level l.fn.subject test;
      wholes : AreRight (IsWholeTally counts) (seen l.fn.store).held l.wholes.places;
      same : seen l.store ≡ seen l.fn.store;
      rests : g.B.Blocks.rests l.fn.store l.store;
    }
