use Rattle.std.proofs.Common.{◌≡◌, None}
use Rattle.node_words.specs.Held.{SameHeld}
use Rattle.node_table.specs.TableStates.{BelongsTo}
use Rattle.tests_table.proofs.nodes.make_often.Given as goal

abbrev pub invariant-loop-k : goal.invariant-loop-k
invariant-loop-k g l =
    BelongsTo l.table l.pass × (l.pass.view.turn ≡ None)
    × SameHeld l.fn.pass.view.held l.pass.view.held × (l.pass.view.log ≡ l.fn.pass.view.log)
