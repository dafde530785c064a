use Rattle.std.proofs.Common.{arith, sym}
use Rattle.history_model.proofs.TakingLaws.{last_next, none_next}
use Rattle.history_model.proofs.reading.least_version.Goals as goal

pub overflow_add-result : goal.overflow_add-result
overflow_add-result c =
    let l = last_next 0 c.args.marks.now c.in-Some.mark.now c.in-Some.ensures.value in omega
    (arith, l, c.requires)

pub returns-in-Some : goal.returns-in-Some
returns-in-Some c = sym (last_next 0 c.args.marks.now c.in-Some.mark.now c.in-Some.ensures.value)

pub returns-in-None : goal.returns-in-None
returns-in-None c = sym (none_next c.args.marks.now c.in-None.ensures.value)
