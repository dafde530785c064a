use Rattle.std.proofs.Common.{◌∙◌, List, ap, arith, length}
use Rattle.std.proofs.lemmas.List.{take_all}
use Rattle.world_run.specs.declared.open_runs.SavedSession.{SavedSession}
use Rattle.world_run.specs.Open.{logged_in}
use Rattle.world_run.proofs.KeptLaws.{number_first}
use Rattle.world_run.proofs.open_runs.number_kept.Goals as goal

pub loop-s-preserved : goal.loop-s-preserved
loop-s-preserved c =
    let next =
    number_first c.args.sessions.now c.loop-s.s-index c.s-item.result c.loop-s-test.true c.s-item.is in
    let long = c.s-item.result.saves.ok.0 in
    let so_far = c.loop-s.invariant.is in
    let few = c.loop-s.invariant.few in
    let least = c.requires.each c.loop-s.s-index c.s-item.result c.loop-s-test.true in
    let same = ap (λ (z : SavedSession). length z.saves.items) c.s-item.is in
    record { is = omega arith; few = omega arith }

pub returns : goal.returns
returns c =
    c.loop-s.invariant.is
    ∙ ap (λ (zs : List SavedSession). length (logged_in zs))
    (take_all c.loop-s.s-index c.args.sessions.now c.loop-s-test.false)
