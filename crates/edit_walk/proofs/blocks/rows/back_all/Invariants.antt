use Rattle.std.proofs.Common.{◌≡◌, ℕ, length}
use Rattle.node_words.specs.shapes.Tree.{Tree}
use Rattle.node_words.specs.Held.{OnlyHeldChanges, AreHeld}
use Rattle.node_words.specs.Gathering.{LosesAll}
use Rattle.edit_walk.proofs.OfBlocks.RowLaws.{Emptied}
use Rattle.edit_walk.proofs.blocks.rows.back_all.Given as goal

abbrev pub invariant-loop-k : goal.invariant-loop-k
invariant-loop-k g l =
    let seen = g.N.Blocks.seen in
    record {
      gone : (row : ℕ → Tree) → AreHeld (seen l.fn.store).held l.fn.children row
          → LosesAll (seen l.fn.store).held row l.k (seen l.store).held;
      emptied : Emptied l.fn.children l.rest l.k;
      long : length l.rest ≡ 8;
      only : OnlyHeldChanges (seen l.fn.store) (seen l.store);
      rests : g.N.Blocks.rests l.fn.store l.store;
    }
