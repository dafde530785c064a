use Rattle.std.proofs.Common.{◌≡◌, ◌≤◌, ◌<◌, ◌+◌, ◌-◌, ℕ, arith, subst}
use Rattle.std.specs.Prelude.{slice_index}
use Rattle.extract.specs.BareLayers.{CountsFrom, IsAny, IsBlank, leaf_at}
use Rattle.extract.specs.declared.bare_layers.BareLeaf.{BareLeaf}
use Rattle.extract.proofs.SurfaceLaws.{any_more, counts_more}
use Rattle.extract.proofs.bare_layers.count_blanks.Goals as goal

pub loop-m-preserved : goal.loop-m-preserved
loop-m-preserved c =
    let m = c.loop-m.m in
    let back : m ≡ m - 1 + 1 = omega (arith, c.loop-m-test.true) in
    let here : m - 1 < c.args.n = omega (arith, c.loop-m.invariant.within, c.loop-m-test.true) in
    record {
      within = omega (arith, c.loop-m.invariant.within);
      any = any_more c.args.words.now c.loop-m.anys c.args.n (m - 1) c.any_of-any.result
          (omega (arith, here, c.requires, c.fits-anys))
          (subst (λ (leaf : BareLeaf). IsAny leaf c.any_of-any.result) c.leaf_of.ensures
          c.any_of-any.ensures.any)
          (subst (λ (k : ℕ). (j : ℕ) → k ≤ j → j < c.args.n
          → IsAny (leaf_at c.args.words.now j) (slice_index c.loop-m.anys j)) back
          c.loop-m.invariant.any);
      counts = counts_more c.args.words.now c.loop-m.blanks c.args.n (m - 1) c.loop-m.run c.blank_run-run.result
          (omega (arith, here, c.requires, c.fits-blanks))
          c.blank_run-run.ensures.within
          (λ some. subst (λ (leaf : BareLeaf). IsBlank leaf) c.leaf_of.ensures
          (c.any_of-any.ensures.blank (c.blank_run-run.ensures.blank some)))
          (subst (λ (k : ℕ). CountsFrom c.args.words.now c.loop-m.blanks c.args.n k c.loop-m.run) back c.loop-m.invariant.counts);
    }
