use Rattle.core_laws.proofs.Frees.{frees_nothing, frees_node, frees_octant, returns_within, frees_none}
use Rattle.core_laws.proofs.returns.freed_parts_are_different.Goals as goal

pub returns : goal.returns
returns c = record {
  nothing = frees_nothing;
  node = frees_node;
  octant = frees_octant;
  within = returns_within;
  none = frees_none;
}
