use Rattle.std.proofs.Common.{◌≡◌, ◌+◌, ◌∙◌, ap, sym, arith, length}
use Rattle.std.proofs.lemmas.List.{length_push}
use Rattle.plain_text.specs.Parts.{lines}
use Rattle.transcript.proofs.ReadingLaws.{all_read, tail_unfit, line_unfit, one_more}
use Rattle.transcript.proofs.reading.read_lines.Goals as goal

pub returns-then-is_empty-clause-read : goal.returns-then-is_empty-clause-read
returns-then-is_empty-clause-read c =
    all_read c.args.bytes.now c.loop-line.rest.now c.loop-line.answers.items c.loop-line.invariant.read (sym c.is_empty.ensures ∙ c.if-is_empty.true)

pub returns-in_default-clause-refused : goal.returns-in_default-clause-refused
returns-in_default-clause-refused c =
    tail_unfit (lines c.args.bytes.now) c.loop-line.rest.now c.loop-line.answers.items c.loop-line.number c.loop-line.invariant.read c.in_default.ensures.lines (sym c.is_empty.ensures ∙ c.if-is_empty.false) c.loop-line.invariant.number

pub returns-in-Err-clause-refused : goal.returns-in-Err-clause-refused
returns-in-Err-clause-refused c =
    line_unfit (lines c.args.bytes.now)
    (lines c.loop-line.rest.now) c.in-Some.line.now c.in-Some.after.now c.loop-line.answers.items c.in-Err.field-0 c.loop-line.number c.loop-line.invariant.read c.in-Some.ensures.lines c.in-Err.ensures
    c.loop-line.invariant.number

pub loop-line-preserved : goal.loop-line-preserved
loop-line-preserved c =
    let more : length c.push.new.self.items ≡ length c.loop-line.answers.items + 1 =
    ap length c.in_ok-push-in-Ok.ensures.items
    ∙ length_push c.loop-line.answers.items c.in-Ok.answer in
    record {
      read = one_more (lines c.args.bytes.now)
          (lines c.loop-line.rest.now) c.in-Some.line.now c.in-Some.after.now c.loop-line.answers.items c.push.new.self.items c.in-Ok.answer c.loop-line.invariant.read c.in-Some.ensures.lines c.in-Ok.ensures
          c.in_ok-push-in-Ok.ensures.items;
      number = (let n = c.loop-line.invariant.number in omega (arith, n, more));
      small = (let s = c.loop-line.invariant.small in let less = c.in-Some.ensures.shorter in omega
          (arith, s, less));
    }
