use Rattle.std.proofs.Common.{refl, sym, ◌∙◌, ◌^◌, ◌≤◌, arith}
use Rattle.history_model.proofs.MakingLaws.{layers_more, world_made, layer_made}
use Rattle.history_model.proofs.making.may_make.Goals as goal

pub returns-then-not-is_layer_made : goal.returns-then-not-is_layer_made
returns-then-not-is_layer_made g c = λ v w of_v of_w.
    let cells = c.cells-cells.ensures.value in
    let low = c.loop-z-test.true in (
      λ e. absurd (let no : ⊥ = cc in no),
      λ made.
          sym c.if-not-is_layer_made.true ∙ (c.is_layer_made.ensures v w of_v of_w).1
          (layer_made (2 ^ c.args.side) c.args.models.now c.args.act.now v w made c.loop-z.z
          (omega (arith, cells, low))),
    )

pub loop-z-preserved : goal.loop-z-preserved
loop-z-preserved g c = λ v w of_v of_w.
    layers_more (2 ^ c.args.side) c.args.models.now c.args.act.now v w c.loop-z.z
    (c.loop-z.invariant v w of_v of_w)
    ((c.is_layer_made.ensures v w of_v of_w).0
    c.if-not-is_layer_made.false)

pub returns : goal.returns
returns g c = λ v w of_v of_w.
    let cells = c.cells-cells.ensures.value in
    let end : c.cells-cells.result ≤ c.loop-z.z = c.loop-z-test.false in (
      λ _. world_made (2 ^ c.args.side) c.args.models.now c.args.act.now v w
          (record {
            each =
                λ z lt. (c.loop-z.invariant v w of_v of_w).each z (omega (arith, cells, end));
          }),
      λ _. refl,
    )
