use Rattle.core_laws.proofs.SeenNodes.{add_gains, add_joins, free_parts}
use Rattle.core_laws.proofs.SeenTrades.{raise_gains, lower_gains}
use Rattle.core_laws.proofs.seen.holders_are_seen_by_trees.Goals as goal

pub returns : goal.returns
returns c = record {
  raises = raise_gains;
  lowers = lower_gains;
  leaf = add_gains;
  node = add_joins;
  frees = free_parts;
}
