use Rattle.std.proofs.Common.{ℕ, ◌/◌, ap}
use Rattle.history_model.proofs.PartLaws.{tint_set}
use Rattle.history_model.proofs.making.is_set.Goals as goal

pub returns-in-Tint : goal.returns-in-Tint
returns-in-Tint g c = λ w of_w.
    tint_set c.args.side _ c.args.models.now c.args.act.now c.in-Tint.act w c.args.q c.is_made.result c.in-Tint.is
    (ap (λ (n : ℕ). n / 4) c.cells.ensures.value) (c.is_made.ensures w of_w)
