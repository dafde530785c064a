use Rattle.std.proofs.Common.{◌∙◌, ap, arith}
use Rattle.std.proofs.lemmas.List.{take_all}
use Rattle.conformance.proofs.OfSessions.Looping.{asked_next}
use Rattle.conformance.specs.sessions.Saves.{saves_asked_in}
use Rattle.world_run.proofs.accepted.number_of_saves.Goals as goal

pub loop-line-preserved : goal.loop-line-preserved
loop-line-preserved c =
    let next =
    asked_next c.args.lines.now c.loop-line.line-index c.line-item.result c.loop-line-test.true c.line-item.is in
    let one = c.saves_asked-number.ensures.value in
    let least = c.saves_asked-number.ensures.few in
    let so_far = c.loop-line.invariant.is in
    let few = c.loop-line.invariant.few in
    record { is = omega arith; few = omega arith }

pub returns : goal.returns
returns c =
    c.loop-line.invariant.is
    ∙ ap saves_asked_in (take_all c.loop-line.line-index c.args.lines.now c.loop-line-test.false)
