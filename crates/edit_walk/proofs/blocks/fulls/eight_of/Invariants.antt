use Rattle.std.proofs.Common.{◌≡◌, ◌+◌, ◌≤◌, List, Some, length}
use Rattle.node_words.specs.declared.shapes.names.Name.{Name}
use Rattle.node_words.specs.shapes.Tree.{Tree}
use Rattle.node_words.specs.shapes.Weights.{number_of_trees}
use Rattle.node_words.specs.Held.{OnlyHeldChanges}
use Rattle.node_words.specs.contents.CellShapes.{full_shape}
use Rattle.edit_walk.specs.blocks.Blocks.{Aside, Gathers}
use Rattle.edit_walk.proofs.blocks.fulls.eight_of.Given as goal

abbrev pub invariant-loop-k : goal.invariant-loop-k
invariant-loop-k g l =
    let seen = g.N.Blocks.seen in
    record {
      gathers : (rest : List Tree) (n : Name) → l.fn.below.share ≡ Some n
          → Aside (seen l.fn.store).held l.fn.below rest
          → Gathers rest n.level (full_shape (n.level + 1)) l.children l.k
          (seen l.store).held l.fn.below;
      long : length l.children ≡ 8;
      number : number_of_trees (seen l.store).held ≡ number_of_trees (seen l.fn.store).held + l.k;
      only : OnlyHeldChanges (seen l.fn.store) (seen l.store);
      rests : g.N.Blocks.rests l.fn.store l.store;
      turns : l.steps ≤ l.fn.steps + l.k;
    }
