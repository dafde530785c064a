use Rattle.std.proofs.Common.{length, ap, arith}
use Rattle.history_model.specs.Logs.{Log}
use Rattle.history_model.proofs.TakingLaws.{line_after}
use Rattle.history_model.proofs.reading.line_number.Goals as goal

pub overflow_cast-result : goal.overflow_cast-result
overflow_cast-result c =
    let l = line_after c.args.history.now c.requires in
    let r = ap (λ (h : Log). length h.records) c.history.view_is in
    let m = ap (λ (h : Log). length h.marks) c.history.view_is in
    omega (arith, l.0, l.1, c.requires.few, r, m)

pub overflow_add-result-2 : goal.overflow_add-result-2
overflow_add-result-2 c =
    let l = line_after c.args.history.now c.requires in
    let r = ap (λ (h : Log). length h.records) c.history.view_is in
    let m = ap (λ (h : Log). length h.marks) c.history.view_is in
    omega (arith, l.0, l.1, c.requires.few, r, m)

pub returns-clause-number : goal.returns-clause-number
returns-clause-number c =
    let l = line_after c.args.history.now c.requires in
    let r = ap (λ (h : Log). length h.records) c.history.view_is in
    let m = ap (λ (h : Log). length h.marks) c.history.view_is in
    omega (arith, l.0, l.1, c.requires.few, r, m)

pub returns-clause-small : goal.returns-clause-small
returns-clause-small c =
    let l = line_after c.args.history.now c.requires in
    let r = ap (λ (h : Log). length h.records) c.history.view_is in
    let m = ap (λ (h : Log). length h.marks) c.history.view_is in
    omega (arith, l.0, l.1, c.requires.few, r, m)
