use Rattle.std.proofs.Common.{◌≤◌}
use Rattle.tests_core.proofs.stores.slot_tests.wrong_answer.Given as goal

abbrev pub invariant-loop-k : goal.invariant-loop-k
invariant-loop-k g l = 3 ≤ l.store.words.plan.side
