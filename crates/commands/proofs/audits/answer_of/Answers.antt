use Rattle.commands.proofs.Auditing.{left_answered, left_refused_as}
use Rattle.commands.proofs.audits.answer_of.Goals as goal

pub returns-in-Ok-answer_by-clause-answers : goal.returns-in-Ok-answer_by-clause-answers
returns-in-Ok-answer_by-clause-answers c =
    left_answered c.args.buckets c.args.keep c.args.file _ c.in-Ok.left c.in-Ok-answer_by.answer
    c.in-Ok.ensures.left c.in-Ok-answer_by.ensures.answer

pub returns-in-Err-answer_by-clause-refused : goal.returns-in-Err-answer_by-clause-refused
returns-in-Err-answer_by-clause-refused c =
    left_refused_as c.args.file _ c.in-Ok.left c.in-Err-answer_by.refused c.from.result
    c.in-Ok.ensures.left c.in-Err-answer_by.ensures.refused c.from.ensures
