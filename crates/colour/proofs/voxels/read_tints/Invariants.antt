use Rattle.std.proofs.Common.{◌≡◌, ◌-◌, ◌^◌, map, take, vec_len, vec_capacity}
use Rattle.std.specs.Prelude.{option_copied}
use Rattle.node_words.specs.descent.Roots.{ForWorld}
use Rattle.colour.specs.Layers.{ForRoot, IsRead}
use Rattle.colour.specs.Reading.{tint_of_voxel}
use Rattle.colour.proofs.voxels.read_tints.Given as goal

abbrev pub invariant-loop-i : goal.invariant-loop-i
invariant-loop-i g l =
    let seen = g.B.Blocks.seen in
    record {
      items : ForWorld (seen l.fn.store).held l.side (option_copied l.fn.root)
          (λ cells. l.tints.items
          ≡ map (tint_of_voxel (2 ^ (l.side - 2)) cells l.b.at) (take l.i l.voxels));
      rows : ForRoot (seen l.fn.store).held l.side (option_copied l.fn.root)
          (λ t. IsRead l.layer l.rows l.b l.side t);
      long : vec_len l.tints ≡ l.i;
      room : vec_capacity l.tints ≡ vec_capacity l.fn.tints;
      same : seen l.store ≡ seen l.fn.store;
      rests : g.B.Blocks.rests l.fn.store l.store;
    }
