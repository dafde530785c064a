use Rattle.std.proofs.Common.{rules, ◌≡◌, get_or, refl, ◌∙◌, arith}
use Rattle.vw_io.specs.Outputs.{Named}
use Rattle.vw_io.proofs.Written.{next_written, stops_with}
use Rattle.vw_io.proofs.outputs.write_all.Goals as goal

pub returns-in-Err-clause-refused : goal.returns-in-Err-clause-refused
returns-in-Err-clause-refused g c =
    let at : c.output-item.result ≡ get_or c.args.outputs.now c.loop-output.output-index c.output-item.result = search rules in
    let seen : Named =
    record { name = c.output.inside.name.now; bytes = c.output.inside.bytes.now } in
    stops_with c.in-Err.why c.output.inside.name.now c.args.outputs.now seen c.output-item.result c.loop-output.output-index _ _ _ _ _ _ c.loop-output-test.true (c.output.view_is ∙ at)
    refl c.loop-output.invariant.grown c.loop-output.invariant.whole c.in-Err.ensures.told c.in-Err.ensures.cause c.in-Err.ensures.never_falls

pub loop-output-preserved : goal.loop-output-preserved
loop-output-preserved g c =
    let at : c.output-item.result ≡ get_or c.args.outputs.now c.loop-output.output-index c.output-item.result = search rules in
    let seen : Named =
    record { name = c.output.inside.name.now; bytes = c.output.inside.bytes.now } in
    record {
      whole = next_written c.args.outputs.now seen c.output-item.result c.loop-output.output-index _ _ _ _ c.loop-output-test.true (c.output.view_is ∙ at) c.loop-output.invariant.whole c.in-Ok.ensures.told;
      grown =
          (let first = c.loop-output.invariant.grown in let more = c.in-Ok.ensures.never_falls in omega (arith, first, more));
    }
