use Rattle.std.proofs.Common.{rules, ◌≡◌, get_or, ap, arith}
use Rattle.vw_io.proofs.Reading.{next_taken, stops_at}
use Rattle.vw_io.proofs.inputs.read_all.Goals as goal

pub returns-in-Err-clause-refused : goal.returns-in-Err-clause-refused
returns-in-Err-clause-refused g c =
    let at : c.input-item.result ≡ get_or c.args.inputs.now c.loop-input.input-index c.input-item.result = search rules in
    stops_at c.in-Err.why c.input.inside.name.now _ _ c.args.inputs.now c.input-item.result c.loop-input.input-index c.loop-input.texts.items _ _ _ c.loop-input-test.true at
    (ap (λ i. i.name) c.input.view_is) c.loop-input.invariant.unchanged c.loop-input.invariant.grown c.loop-input.invariant.start c.loop-input.invariant.taken c.in-Err.ensures.refused c.in-Err.ensures.never_falls

pub loop-input-preserved : goal.loop-input-preserved
loop-input-preserved g c =
    let at : c.input-item.result ≡ get_or c.args.inputs.now c.loop-input.input-index c.input-item.result = search rules in
    record {
      taken = next_taken _ _ c.args.inputs.now c.input-item.result c.loop-input.input-index c.loop-input.texts.items _ c.loop-input-test.true at c.loop-input.invariant.unchanged c.loop-input.invariant.taken c.in-Ok.ensures.taken;
      unchanged = search rules;
      start = λ none. absurd (omega (arith, none));
      grown =
          (let first = c.loop-input.invariant.grown in let more = c.in-Ok.ensures.never_falls in omega (arith, first, more));
    }
