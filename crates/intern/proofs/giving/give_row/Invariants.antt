use Rattle.std.proofs.Common.{◌≡◌, ℕ, ◌+◌, ◌≤◌, length}
use Rattle.node_words.specs.shapes.Tree.{Tree}
use Rattle.node_words.specs.Gathering.{LosesAll}
use Rattle.node_words.specs.Held.{AreHeld}
use Rattle.node_table.proofs.Taking.{Emptied}
use Rattle.node_table.specs.Acts.{OnlySharesChange}
use Rattle.node_table.specs.TableStates.{BelongsTo}
use Rattle.intern.proofs.giving.give_row.Given as goal

abbrev pub invariant-loop-k : goal.invariant-loop-k
invariant-loop-k g l = record {
  of : BelongsTo l.table l.pass;
  only : OnlySharesChange l.fn.pass.view l.pass.view;
  emptied : Emptied l.fn.children l.rest l.k;
  long : length l.rest ≡ 8;
  gone : (row : ℕ → Tree) → AreHeld l.fn.pass.view.held l.fn.children row
      → LosesAll l.fn.pass.view.held row l.k l.pass.view.held;
  turns : l.steps ≤ l.fn.steps + l.k;
}
