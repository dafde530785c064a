use Rattle.std.proofs.Common.{take}
use Rattle.dag_answers.specs.Legality.{TellsEnds}
use Rattle.dag_answers.proofs.legality.mark_ends.Given as goal

abbrev pub invariant-loop-mark : goal.invariant-loop-mark
invariant-loop-mark l = TellsEnds (take l.mark-index l.marks) l.ends.items
