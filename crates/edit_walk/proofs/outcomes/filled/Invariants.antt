use Rattle.std.proofs.Common.{◌≡◌, ◌+◌, ◌-◌, ◌≤◌, List, length}
use Rattle.edit_walk.specs.declared.blocks.full_blocks.FullBlocks.{FullBlocks}
use Rattle.node_words.specs.shapes.Shape.{Shape, IsCanonical}
use Rattle.node_words.specs.shapes.Tree.{Tree}
use Rattle.node_words.specs.shapes.Weights.{number_of_trees}
use Rattle.node_words.specs.Held.{OnlyHeldChanges}
use Rattle.edit_walk.specs.Outcomes.{FindsOctants}
use Rattle.edit_walk.proofs.OutcomeLaws.{Filling}
use Rattle.edit_walk.proofs.outcomes.filled.Given as goal

abbrev pub invariant-loop-k : goal.invariant-loop-k
invariant-loop-k g l =
    let seen = g.N.Blocks.seen in
    record {
      filling : (rest : List Tree) (full : FullBlocks) (target : Shape) → IsCanonical l._level target
          → (a : FindsOctants rest (l._level - 1) target l.fn.children l.standing 0 8
          (seen l.fn.store).held full)
          → Filling rest a.now (l._level - 1) target l.all l.standing l.k (seen l.store).held full;
      number : number_of_trees (seen l.store).held ≤ number_of_trees (seen l.fn.store).held + l.k;
      long : length l.all ≡ 8;
      only : OnlyHeldChanges (seen l.fn.store) (seen l.store);
      rests : g.N.Blocks.rests l.fn.store l.store;
      turns : l.steps ≤ l.fn.steps + l.k;
    }
