use Rattle.std.proofs.Common.{List, ap, arith, subst}
use Rattle.node_words.specs.Plans.{Layout}
use Rattle.conformance.specs.sessions.Ran.{ClosesWorld}
use Rattle.conformance.specs.sessions.SessionViews.{SessionView}
use Rattle.world_run.specs.Open.{saved_seen}
use Rattle.world_run.proofs.EndLaws.{ran_ends, ran_numbers, ran_or_had, ran_tells}
use Rattle.world_run.proofs.endings.close_over.Goals as goal

pub returns-in-Ok-clause-is_end : goal.returns-in-Ok-clause-is_end
returns-in-Ok-clause-is_end g c =
    ran_ends c.args.world.table c.in-Ok.ended
    (let a = c.root_level.ensures.bounds.0 in let b = c.side.ensures.value in let e = ap
    (λ (p : Layout). p.side) c.plan.ensures.value in omega arith)
    (let a = c.root_level.ensures.bounds.1 in let b = c.side.ensures.value in let e = ap
    (λ (p : Layout). p.side) c.plan.ensures.value in omega arith) c.in-Ok.ensures.ends c.args.world.tint c.in-Ok.ensures.closes.coloured c.told.result c.told.ensures.ended

pub returns-in-Ok-clause-report : goal.returns-in-Ok-clause-report
returns-in-Ok-clause-report g c =
    ran_tells c.args.world.table c.in-Ok.ended
    (let a = c.root_level.ensures.bounds.0 in let b = c.side.ensures.value in let e = ap
    (λ (p : Layout). p.side) c.plan.ensures.value in omega arith)
    (let a = c.root_level.ensures.bounds.1 in let b = c.side.ensures.value in let e = ap
    (λ (p : Layout). p.side) c.plan.ensures.value in omega arith) c.in-Ok.ensures.ends c.told.result c.told.ensures.ended

pub returns-in-Ok-clause-numbers : goal.returns-in-Ok-clause-numbers
returns-in-Ok-clause-numbers g c =
    ran_numbers c.args.world.table c.in-Ok.ended
    (let a = c.root_level.ensures.bounds.0 in let b = c.side.ensures.value in let e = ap
    (λ (p : Layout). p.side) c.plan.ensures.value in omega arith)
    (let a = c.root_level.ensures.bounds.1 in let b = c.side.ensures.value in let e = ap
    (λ (p : Layout). p.side) c.plan.ensures.value in omega arith) c.in-Ok.ensures.ends c.told.result c.from-levels.result
    (let a = c.from-levels.ensures in let b = c.root_level.ensures.value in let d = c.side.ensures.value in let e = ap (λ (p : Layout). p.side) c.plan.ensures.value in omega arith) c.told.ensures.ended c.told.ensures.numbers

pub returns-in-Ok-clause-refused : goal.returns-in-Ok-clause-refused
returns-in-Ok-clause-refused g c =
    ran_or_had c.args.world.table.plan c.args.world.table.models c.args.world.tint
    (saved_seen c.args.sessions.items) c.in-Ok.ended.history
    (subst (λ (ss : List SessionView). ClosesWorld c.args.world.tint c.args.world.table.plan
    c.args.world.table.models ss c.in-Ok.ended.history) c.unpin_all-sessions.ensures.seen
    c.in-Ok.ensures.closes) c.told.result
