use Rattle.std.proofs.Common.{ℕ, ap, Vec, Global}
use Rattle.report.proofs.RootLaws.{closed_told, text_told}
use Rattle.report.proofs.texts.report_text.Goals as goal

pub returns : goal.returns
returns c models tells =
    closed_told models c.args.closed.now c.as_slice.result.now c.in_ok-rows.rows.items c.level_numbers.result.now c.into_bytes.result.items c.as_slice.ensures.value c.in_ok-rows.ensures c.level_numbers.ensures
    (text_told _ _ _ c.into_bytes.result.items c.args.closed.now.history c.in_ok-rows.rows.items c.deref.result.now c.level_numbers.result.now c.in_ok-text.ensures c.deref.ensures.value c.in_ok-put_rows.ensures c.in_ok-put_levels.ensures (ap (λ (bytes : Vec ℕ Global). bytes.items) c.into_bytes.ensures.value))
    tells
