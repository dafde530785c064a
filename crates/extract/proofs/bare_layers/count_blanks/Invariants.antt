use Rattle.std.proofs.Common.{◌≤◌, ◌<◌, ℕ}
use Rattle.std.specs.Prelude.{slice_index}
use Rattle.extract.specs.BareLayers.{CountsFrom, IsAny, leaf_at}
use Rattle.extract.proofs.bare_layers.count_blanks.Given as goal

abbrev pub invariant-loop-m : goal.invariant-loop-m
invariant-loop-m l = record {
  within : l.m ≤ l.fn.n;
  any : (j : ℕ) → l.m ≤ j → j < l.fn.n → IsAny (leaf_at l.fn.words j) (slice_index l.anys j);
  counts : CountsFrom l.fn.words l.blanks l.fn.n l.m l.run;
}

abbrev pub decreases-loop-m : goal.decreases-loop-m
decreases-loop-m l = l.m
