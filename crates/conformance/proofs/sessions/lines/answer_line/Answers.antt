use Rattle.std.proofs.Common.{◌^◌, rules, subst}
use Rattle.script.specs.declared.commands.Command.{Command}
use Rattle.script.specs.Fitting.{CommandFits}
use Rattle.conformance.specs.sessions.CallSpecs.{AskSpec}
use Rattle.conformance.proofs.OfSessions.Answering.{line_is, tried_is, act_takes, once_takes, ask_takes, save_takes, forget_takes, same_takes, head_takes}
use Rattle.conformance.proofs.sessions.lines.answer_line.Goals as goal

pub returns-then-is_edit-clause-takes : goal.returns-then-is_edit-clause-takes
returns-then-is_edit-clause-takes g c =
    let of = g.C.SessionCalls.of c.args.calls.now in
    let old = g.C.SessionCalls.seen c.args.calls.now in
    let new = g.C.SessionCalls.seen c.act_once-answer.new.self in
    tried_is of old new c.args.l c.in-Edit.act c.in-Edit.once _ _ c.in-Edit.is
    (search rules) c.once_line.ensures
    (once_takes of old new c.act_once-answer.ensures.knows c.args.l.line c.in-Edit.act c.act_once-answer.result c.requires.earlier c.act_once-answer.ensures.told)

pub returns-else-once-clause-takes : goal.returns-else-once-clause-takes
returns-else-once-clause-takes g c =
    let of = g.C.SessionCalls.of c.args.calls.now in
    let old = g.C.SessionCalls.seen c.args.calls.now in
    let new = g.C.SessionCalls.seen c.act-answer.new.self in
    line_is of old new c.args.l _ _ _ c.in-Edit.is c.act_line.ensures
    (act_takes of old new c.act-answer.ensures.knows c.args.l.line c.in-Edit.act c.in-Edit.once c.act-answer.result c.requires.earlier c.act-answer.ensures.told)

pub returns-in-Forget-clause-takes : goal.returns-in-Forget-clause-takes
returns-in-Forget-clause-takes g c =
    let of = g.C.SessionCalls.of c.args.calls.now in
    let old = g.C.SessionCalls.seen c.args.calls.now in
    let new = g.C.SessionCalls.seen c.forget-answer.new.self in
    line_is of old new c.args.l _ _ _ c.in-Forget.is c.forget_line.ensures
    (forget_takes of old new c.forget-answer.ensures.knows c.args.l.line c.in-Forget.version c.forget-answer.result c.requires.earlier c.forget-answer.ensures.told)

pub returns-in-Ask-clause-takes : goal.returns-in-Ask-clause-takes
returns-in-Ask-clause-takes g c =
    let of = g.C.SessionCalls.of c.args.calls.now in
    let old = g.C.SessionCalls.seen c.args.calls.now in
    let new = g.C.SessionCalls.seen c.ask-answer.new.self in
    let told : AskSpec of c.in-Ask.version c.in-Ask.question old new c.ask-answer.result =
    search rules in
    line_is of old new c.args.l _ _ _ c.in-Ask.is c.ask_line.ensures
    (ask_takes of old new c.ask-answer.ensures.knows c.args.l.line c.in-Ask.version c.in-Ask.question
    c.ask-answer.result c.requires.earlier told)

pub returns-in-Save-clause-takes : goal.returns-in-Save-clause-takes
returns-in-Save-clause-takes g c =
    let of = g.C.SessionCalls.of c.args.calls.now in
    let old = g.C.SessionCalls.seen c.args.calls.now in
    let new = g.C.SessionCalls.seen c.save-answer.new.self in
    line_is of old new c.args.l _ _ _ c.in-Save.is c.save_line.ensures
    (save_takes of old new c.save-answer.ensures.knows c.args.l.line c.in-Save.version c.in-Save.name c.in-Save.part c.save-answer.result
    (subst (λ (command : Command). CommandFits of.tint
    (2 ^ of.plan.side) of.models command) c.in-Save.is c.requires.fits)
    c.requires.earlier c.save-answer.ensures.told)

pub returns-in-Same-clause-takes : goal.returns-in-Same-clause-takes
returns-in-Same-clause-takes g c =
    let of = g.C.SessionCalls.of c.args.calls.now in
    let old = g.C.SessionCalls.seen c.args.calls.now in
    let new = g.C.SessionCalls.seen c.same-answer.new.self in
    line_is of old new c.args.l _ _ _ c.in-Same.is c.same_line.ensures
    (same_takes of old new c.same-answer.ensures.knows c.args.l.line c.in-Same.v c.in-Same.w c.same-answer.result c.requires.earlier c.same-answer.ensures.told)

pub returns-in-Head-clause-takes : goal.returns-in-Head-clause-takes
returns-in-Head-clause-takes g c =
    let of = g.C.SessionCalls.of c.args.calls.now in
    let old = g.C.SessionCalls.seen c.args.calls.now in
    let new = g.C.SessionCalls.seen c.head-at.new.self in
    line_is of old new c.args.l _ _ _ c.in-Head.is c.answered.ensures
    (head_takes of old new c.head-at.ensures.knows c.args.l.line c.head-at.result c.head-at.ensures.told)
