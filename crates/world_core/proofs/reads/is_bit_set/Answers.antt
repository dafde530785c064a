use Rattle.std.proofs.Common.{arith, ap, ◌∙◌, ◌+◌, ◌*◌, ◌^◌, ◌/◌, ◌≡◌, ℕ}
use Rattle.std.specs.Prelude.{◌==◌}
use Rattle.std.specs.Prelude.{bit_and}
use Rattle.node_words.proofs.OfShapes.ShowLaws.{leaf_has}
use Rattle.world_core.proofs.Cells.{bit_past}
use Rattle.world_core.proofs.reads.is_bit_set.Goals as goal

pub returns-then-number-gt63 : goal.returns-then-number-gt63
returns-then-number-gt63 c =
    bit_past c.args.bits c.args.q.x c.args.q.y c.args.q.z _ c.ranges.bits.fits
    (omega (arith, c.from.ensures, c.from-2.ensures, c.from-3.ensures)) c.if-number-gt63.true

pub returns : goal.returns
returns c =
    let same : c.from.result + 4 * c.from-2.result + 16 * c.from-3.result ≡ c.args.q.x + 4 * c.args.q.y + 16 * c.args.q.z = omega (arith, c.from.ensures, c.from-2.ensures, c.from-3.ensures) in
    ap (λ (k : ℕ). bit_and (c.args.bits / 2 ^ k) 1 == 1) same
    ∙ leaf_has c.args.bits c.args.q.x c.args.q.y c.args.q.z
