use Rattle.std.proofs.Common.{ℕ, ◌/◌, true, false, ap}
use Rattle.history_model.proofs.Texts.{head_as}
use Rattle.history_model.proofs.journal.put_head.Goals as goal

pub returns-then-coloured : goal.returns-then-coloured
returns-then-coloured c =
    head_as c.put_tint_head.result _ _ true c.args.coloured c.args.side
    (c.cells-cells.result / 4) c.if-coloured.true
    (ap (λ (n : ℕ). n / 4) c.cells-cells.ensures.value) c.put_tint_head.ensures

pub returns : goal.returns
returns c =
    head_as c.put_plain_head.result _ _ false c.args.coloured c.args.side c.cells-cells.result c.if-coloured.false c.cells-cells.ensures.value c.put_plain_head.ensures
