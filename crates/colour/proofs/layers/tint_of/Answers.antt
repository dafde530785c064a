use Rattle.std.proofs.Common.{◌≡◌, ◌+◌, ◌∙◌, ℕ, length, refl, arith, rules}
use Rattle.vw_cell.specs.Counts.{cell_at}
use Rattle.extract.proofs.LeafLaws.{run_inside, run_index}
use Rattle.colour.specs.Layers.{bit_cells}
use Rattle.colour.proofs.ReadLaws.{none_read, one_read, still_small}
use Rattle.colour.proofs.LayerLaws.{layer_cell, leaf_read}
use Rattle.colour.proofs.layers.tint_of.Goals as goal

pub loop-bit-init : goal.loop-bit-init
loop-bit-init c = record { so_far = λ side t held. none_read _; small = omega arith }

pub loop-bit-preserved : goal.loop-bit-preserved
loop-bit-preserved c =
    let b = c.args.b in
    let m : ℕ = c.row_start-start.result + c.from-right.result in
    let eight : length c.args.rows.now ≡ 8 = search rules in
    record {
      so_far = λ side t held.
          one_read (λ bit. bit_cells side t bit
          (cell_at (b.at.x + c.args.c.x) (b.at.y + c.args.c.y)
          (b.at.z + c.args.c.z))) c.loop-bit.bit
          c.loop-bit.tint c.with_bit-tint.result c.leaf_has-set.result
          (c.loop-bit.invariant.so_far side t held)
          (c.leaf_has-set.ensures
          ∙ layer_cell _ b c.args.c.x c.args.c.y c.args.c.z m _ _ c.requires.b c.requires.c.0
          c.requires.c.1
          (run_index _ _ _ _ c.row_start-start.ensures.start c.from-right.ensures)
          (run_inside b c.args.c.y c.args.c.x c.row_start-start.result m c.requires.b c.requires.c.1
          c.requires.c.0 c.row_start-start.ensures.inside
          (run_index _ _ _ _ refl c.from-right.ensures))
          (leaf_read c.args.rows.now _ c.loop-bit.bit m _ eight c.loop-bit-test.true c.from.ensures)
          (held.each c.loop-bit.bit c.loop-bit-test.true))
          c.with_bit-tint.ensures;
      small = still_small c.loop-bit.bit c.loop-bit.tint c.with_bit-tint.result c.leaf_has-set.result
          c.loop-bit.invariant.small c.with_bit-tint.ensures;
    }
