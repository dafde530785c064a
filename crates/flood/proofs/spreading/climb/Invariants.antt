use Rattle.std.proofs.Common.{◌-◌, ◌≤◌, true}
use Rattle.flood.specs.Words.{GrowsAlong, AreRuns}
use Rattle.flood.proofs.spreading.climb.Given as goal

abbrev pub invariant-loop-by : goal.invariant-loop-by
invariant-loop-by l = record {
  some : 1 ≤ l.by;
  grows : GrowsAlong l.fn.clear l.fn.seeds l.word;
  runs : AreRuns true l.fn.clear l.by l.runs;
}

abbrev pub decreases-loop-by : goal.decreases-loop-by
decreases-loop-by l = 64 - l.by
