use Rattle.std.proofs.Common.{◌≡◌, ◌+◌, true, get_or, ◌∙◌, sym, arith}
use Rattle.std.specs.Char.{is_ascii_digit}
use Rattle.plain_text.proofs.Values.{number_step, number_large}
use Rattle.plain_text.proofs.exacts.digits.Goals as goal

pub returns-in-None-clause-number : goal.returns-in-None-clause-number
returns-in-None-clause-number c =
    let digit : is_ascii_digit (get_or c.args.word.now c.loop-b.b-index 0) ≡ true =
    sym c.if-not-is_ascii_digit.ensures.value in
    sym (sym c.loop-b.invariant.0
    ∙ number_large (c.args.most + 1) c.loop-b.n c.loop-b.b-index c.args.word.now
    (omega arith) digit c.in-None.ensures)

pub loop-b-preserved : goal.loop-b-preserved
loop-b-preserved c =
    let digit : is_ascii_digit (get_or c.args.word.now c.loop-b.b-index 0) ≡ true =
    sym c.if-not-is_ascii_digit.ensures.value in
    let step =
    number_step (c.args.most + 1) c.loop-b.n c.loop-b.b-index c.args.word.now
    (omega arith) digit in
    (rw c.in-Some.ensures.0 (sym step ∙ c.loop-b.invariant.0), c.in-Some.ensures.1)
