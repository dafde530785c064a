use Rattle.std.proofs.Common.{rules, subst, IsTrue, ◌^◌}
use Rattle.store_run.specs.declared.replaying.ReplayRefused.{ReplayRefused}
use Rattle.store_run.specs.Replaying.{RefusesRecord}
use Rattle.audit.proofs.Following.{step_full, step_taken}
use Rattle.audit.proofs.replaying.step.Goals as goal

pub returns-in-Ok-clause-steps : goal.returns-in-Ok-clause-steps
returns-in-Ok-clause-steps g c = λ marks tells. (
    let free : IsTrue c.is_free.result = search rules in
    step_taken (2 ^ c.args.replay.now.plan.side) c.args.replay.now.models marks c.args.table.now
    c.args.replay.now.records c.take.new.self.records c.args.next c.in-Ok.taken tells c.requires.may.fits
    (c.is_free.ensures.0 free) c.in-Ok.ensures.replays)

pub returns-in-Err-Full-clause-steps : goal.returns-in-Err-Full-clause-steps
returns-in-Err-Full-clause-steps g c = λ marks tells. (
    let free : IsTrue c.is_free.result = search rules in
    step_full c.args.replay.now marks c.args.table.now c.take.new.self.records c.args.next
    c.in-Err-Full.full tells c.requires.may.fits (c.is_free.ensures.0 free)
    (subst (λ (e : ReplayRefused). RefusesRecord c.args.replay.now c.args.next e)
    c.in-Err-Full.field-0-is c.in-Err-Full.ensures.refused))
