use Rattle.core_laws.proofs.SeenNodes.{gone_tree, leaf_tree, node_tree}
use Rattle.core_laws.proofs.Standings.{levels_of, parts_stand}
use Rattle.core_laws.proofs.shapes.trees_stand_by_levels.Goals as goal

pub returns : goal.returns
returns c = record {
  gone = gone_tree;
  leaf = leaf_tree;
  node = node_tree;
  levels = λ p state n s live. levels_of p state s n live;
  parts = λ p state t u s stands over. parts_stand p state s t u stands over;
}
