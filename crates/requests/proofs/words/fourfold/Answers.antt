use Rattle.std.proofs.Common.{◌*◌, ℕ, ◌∙◌, ap, arith}
use Rattle.requests.specs.Words.{exponent_of}
use Rattle.requests.proofs.OfWords.Sides.{fourfold_made, fourfold_none}
use Rattle.requests.proofs.words.fourfold.Goals as goal

pub returns : goal.returns
returns c =
    let low = c.exponent.ensures.bounds.0 in
    let same = c.exponent.ensures.value in
    let few = c.if-exponent-gt10.false in
    let cells = c.cells.ensures.value in
    c.side_with.ensures ∙ ap (λ (m : ℕ). exponent_of (m * 4)) cells
    ∙ fourfold_made c.args.side (omega (arith, low, same)) (omega (arith, few, same))

pub returns-then-exponent-gt10 : goal.returns-then-exponent-gt10
returns-then-exponent-gt10 c =
    let over = c.if-exponent-gt10.true in
    let same = c.exponent.ensures.value in
    fourfold_none c.args.side (omega (arith, over, same))
