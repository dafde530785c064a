use Rattle.std.proofs.Common.{◌≡◌, Bool, length}
use Rattle.vw_cell.specs.declared.cells.Cell.{Cell}
use Rattle.measure.specs.Tallies.{LeavesPassTest}
use Rattle.measure.proofs.tallies.Subject.leaves.Given as goal

abbrev pub invariant-loop-octant : goal.invariant-loop-octant
invariant-loop-octant g l =
    let seen = g.B.Blocks.seen in
    record {
      leaves : (test : Cell → Bool) → g.Self.Subject.counts (seen l.fn.store).held 1 l.fn.self test
          → LeavesPassTest l.octant l.leaves test;
      long : length l.leaves ≡ 8;
      same : seen l.store ≡ seen l.fn.store;
      rests : g.B.Blocks.rests l.fn.store l.store;
    }
