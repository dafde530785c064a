use Rattle.std.proofs.Common.{rules, refl}
use Rattle.std.proofs.lemmas.Bool.{false≢true}
use Rattle.voxdag_c.specs.held.GoingOn.{IsPlanAsked, RefusesToGoOn}
use Rattle.voxdag_c.proofs.OfHeld.GoingOn.{gone_on, history_refused}
use Rattle.voxdag_c.proofs.held.openings.behind.Goals as goal

pub returns-in-None-clause-refused : goal.returns-in-None-clause-refused
returns-in-None-clause-refused c = λ bytes journal told.
    RefusesToGoOn.bad_plan (λ is. false≢true (c.in-None.ensures.exactly.1 is)) refl

pub returns-in-Ok-clause-gone_on : goal.returns-in-Ok-clause-gone_on
returns-in-Ok-clause-gone_on c = λ bytes journal told.
    let asked : IsPlanAsked c.args.history.now.side c.args.cap c.in-Some.plan = search rules in
    gone_on c.args.cap c.args.keep c.args.models c.args.history.now c.requires.has c.in-Some.plan
    c.requires.cap asked
    _ c.in-Ok.ensures.legal c.in-Ok.ensures.plan c.in-Ok.ensures.models
    c.in-Ok.ensures.log refl (search rules) bytes journal told

pub returns-in-Err-clause-refused : goal.returns-in-Err-clause-refused
returns-in-Err-clause-refused c = λ bytes journal told.
    let asked : IsPlanAsked c.args.history.now.side c.args.cap c.in-Some.plan = search rules in
    history_refused c.args.cap c.args.keep c.args.models c.args.history.now c.requires.has c.in-Some.plan
    c.requires.cap asked c.in-Err.why c.args.line.now c.put_why.new.line c.put_why.result
    c.in-Err.ensures.refused c.put_why.ensures bytes journal told
