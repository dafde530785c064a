use Rattle.std.proofs.Common.{◌≡◌, ◌<◌, ℕ}
use Rattle.node_words.specs.shapes.Tree.{Tree, root_of, child_of}
use Rattle.node_words.specs.Held.{name_in}
use Rattle.node_words.specs.descent.Roots.{IsBlockOf}
use Rattle.edit_walk.proofs.outcomes.is_old.Given as goal

abbrev pub invariant-loop-k : goal.invariant-loop-k
invariant-loop-k g l =
    let seen = g.B.Blocks.seen in
    record {
      names : (t : Tree) → IsBlockOf (seen l.fn.store).held l.level l.old t → (j : ℕ) → j < l.k
          → root_of (child_of t j) ≡ name_in l.standing j;
      seen : seen l.store ≡ seen l.fn.store;
      rests : g.B.Blocks.rests l.fn.store l.store;
    }
