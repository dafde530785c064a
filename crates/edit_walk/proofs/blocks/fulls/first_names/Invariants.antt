use Rattle.std.proofs.Common.{◌≡◌, ◌-◌, ◌≤◌, ℕ, length}
use Rattle.node_words.specs.shapes.Tree.{Tree, root_of}
use Rattle.node_words.specs.Held.{name_in}
use Rattle.edit_walk.specs.blocks.Blocks.{IsFullBlock, first_below}
use Rattle.edit_walk.proofs.blocks.fulls.first_names.Given as goal

abbrev pub invariant-loop-at : goal.invariant-loop-at
invariant-loop-at g l =
    let seen = g.B.Blocks.seen in
    let n = l.fn.n in
    record {
      low : l.at.level ≤ n.level;
      leads : (t : Tree) → IsFullBlock (seen l.fn.store).held t n
          → IsFullBlock (seen l.fn.store).held (first_below (n.level - l.at.level) t) l.at;
      names : (t : Tree) → IsFullBlock (seen l.fn.store).held t n
          → (k : ℕ) → l.at.level ≤ k → k ≤ n.level
          → name_in l.names k ≡ root_of (first_below (n.level - k) t);
      long : length l.names ≡ 11;
      same : seen l.store ≡ seen l.fn.store;
      rests : g.B.Blocks.rests l.fn.store l.store;
    }

abbrev pub decreases-loop-at : goal.decreases-loop-at
decreases-loop-at g l = l.at.level
