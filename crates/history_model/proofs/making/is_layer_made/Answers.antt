use Rattle.std.proofs.Common.{refl, ◌^◌, ◌≤◌, arith}
use Rattle.history_model.proofs.MakingLaws.{layer_more}
use Rattle.history_model.proofs.making.is_layer_made.Goals as goal

pub loop-y-preserved : goal.loop-y-preserved
loop-y-preserved g c = λ v w of_v of_w.
    layer_more (2 ^ c.args.side) c.args.models.now c.args.act.now v w c.args.z c.loop-y.y
    (c.loop-y.invariant v w of_v of_w)
    ((c.is_row_made.ensures v w of_v of_w).0
    c.if-not-is_row_made.false)

pub returns : goal.returns
returns g c = λ v w of_v of_w.
    let cells = c.cells-cells.ensures.value in
    let end : c.cells-cells.result ≤ c.loop-y.y = c.loop-y-test.false in (
      λ _. record {
        each =
            λ y lt. (c.loop-y.invariant v w of_v of_w).each y (omega (arith, cells, end));
      },
      λ _. refl,
    )
