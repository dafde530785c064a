use Rattle.std.proofs.Common.{◌≡◌, ◌+◌, ◌/◌}
use Rattle.std.specs.Prelude.{option_copied, length}
use Rattle.colour.specs.Layers.{ForRoot, HoldsBits}
use Rattle.colour.proofs.layers.all_leaves.Given as goal

abbrev pub invariant-loop-bit : goal.invariant-loop-bit
invariant-loop-bit g l =
    let seen = g.B.Blocks.seen in
    record {
      so_far : ForRoot (seen l.fn.store).held l.side (option_copied l.fn.root)
          (λ t. HoldsBits l.rows l.b ((l.b.at.z + l.z) / 4) l.side t l.bit);
      eight : length l.rows ≡ 8;
      same : seen l.store ≡ seen l.fn.store;
      rests : g.B.Blocks.rests l.fn.store l.store;
    }
