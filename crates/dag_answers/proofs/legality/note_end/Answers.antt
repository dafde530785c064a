use Rattle.std.proofs.Common.{rules}
use Rattle.dag_answers.proofs.EndLaws.{earlier_end, far_mark, later_mark}
use Rattle.dag_answers.proofs.legality.note_end.Goals as goal

pub returns-then-version-ge-VERSIONS : goal.returns-then-version-ge-VERSIONS
returns-then-version-ge-VERSIONS c = λ front tells.
    far_mark front c.args.ends.now.items c.args.mark tells (search rules)

pub returns-then-mark-end_of : goal.returns-then-mark-end_of
returns-then-mark-end_of c = λ front tells.
    earlier_end front c.args.ends.now.items c.args.mark tells (search rules) (search rules)

pub returns-else-mark-end_of : goal.returns-else-mark-end_of
returns-else-mark-end_of c = λ front tells.
    later_mark front c.args.ends.now.items c.args.mark tells (search rules)
