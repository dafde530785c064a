use Rattle.std.proofs.Common.{◌≡◌, refl, ◌^◌, ◌≤◌, arith}
use Rattle.vw_cell.specs.Counts.{cell_at}
use Rattle.history_model.specs.Stores.{edited_in}
use Rattle.history_model.proofs.MakingLaws.{same_answers, row_more}
use Rattle.history_model.proofs.making.is_row_made.Goals as goal

pub loop-x-preserved : goal.loop-x-preserved
loop-x-preserved g c = λ v w of_v of_w.
    let same = same_answers c.after.result c.is_set-made.result c.if-after-made.false in
    let q = cell_at c.loop-x.x c.args.y c.args.z in
    let of_after : c.after.result ≡ w q = of_w.each q c.after.result c.after.ensures in
    let of_made : c.is_set-made.result ≡ edited_in (2 ^ c.args.side) c.args.models.now c.args.act.now v q =
    c.is_set-made.ensures v of_v in
    let here : w q ≡ edited_in (2 ^ c.args.side) c.args.models.now c.args.act.now v q = cc in
    row_more (2 ^ c.args.side) c.args.models.now c.args.act.now v w c.args.y c.args.z c.loop-x.x
    (c.loop-x.invariant v w of_v of_w)
    here

pub returns : goal.returns
returns g c = λ v w of_v of_w.
    let cells = c.cells-cells.ensures.value in
    let end : c.cells-cells.result ≤ c.loop-x.x = c.loop-x-test.false in (
      λ _. record {
        each =
            λ x lt. (c.loop-x.invariant v w of_v of_w).each x (omega (arith, cells, end));
      },
      λ _. refl,
    )
