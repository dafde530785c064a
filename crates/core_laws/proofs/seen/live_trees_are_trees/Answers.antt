use Rattle.core_laws.proofs.Standings.{standing_trees, standing_canonical}
use Rattle.core_laws.proofs.seen.live_trees_are_trees.Goals as goal

pub returns : goal.returns
returns c = record {
  trees = λ p state held s all. standing_trees p state s held all;
  canonical = λ p state held s all. standing_canonical p state s held all;
}
