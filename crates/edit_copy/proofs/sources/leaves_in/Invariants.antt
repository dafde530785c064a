use Rattle.std.proofs.Common.{◌≡◌, ◌<◌, ℕ, slice_index, length}
use Rattle.node_words.specs.shapes.Shape.{bits_of}
use Rattle.node_words.specs.shapes.Tree.{Tree, shape_of}
use Rattle.edit_copy.specs.Copies.{AreBlocks}
use Rattle.edit_copy.proofs.sources.leaves_in.Given as goal

abbrev pub invariant-loop-j : goal.invariant-loop-j
invariant-loop-j g l =
    let seen = g.B.Blocks.seen in
    record {
      leaves : (row : ℕ → Tree) → AreBlocks (seen l.fn.store).held 0 l.sources row → (i : ℕ)
          → i < l.j → slice_index l.leaves i ≡ bits_of (shape_of (row i));
      long : length l.leaves ≡ 8;
      seen_is : seen l.store ≡ seen l.fn.store;
      rests : g.B.Blocks.rests l.fn.store l.store;
    }
