use Rattle.std.proofs.Common.{◌+◌, ◌/◌, ◌∙◌, refl, rules}
use Rattle.std.proofs.lemmas.List.{length-set}
use Rattle.colour.proofs.ReadLaws.{block_as}
use Rattle.colour.proofs.LayerLaws.{no_bits, more_bits}
use Rattle.colour.proofs.layers.all_leaves.Goals as goal

pub loop-bit-init : goal.loop-bit-init
loop-bit-init g c = record {
  so_far = λ t block. no_bits _ c.args.b ((c.args.b.at.z + c.args.z) / 4) c.args.side t;
  eight = search rules;
  same = refl;
  rests = g.met.B.Blocks.rests_itself _;
}

pub loop-bit-preserved : goal.loop-bit-preserved
loop-bit-preserved g c = record {
  so_far = λ t block.
      more_bits c.loop-bit.rows _ c.bit_leaves-leaves.result c.args.b
      ((c.args.b.at.z + c.args.z) / 4)
      c.args.side t _ c.loop-bit.bit c.loop-bit.invariant.eight c.loop-bit-test.true
      (search rules) refl
      (c.loop-bit.invariant.so_far t block)
      (c.bit_leaves-leaves.ensures.leaves t (block_as _ _ _ _ t c.loop-bit.invariant.same block));
  eight = length-set c.loop-bit.rows _ _ ∙ c.loop-bit.invariant.eight;
  same = c.bit_leaves-leaves.ensures.seen ∙ c.loop-bit.invariant.same;
  rests = g.met.B.Blocks.rests_on _ _ _ c.loop-bit.invariant.rests c.bit_leaves-leaves.ensures.rests;
}
