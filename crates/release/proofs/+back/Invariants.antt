use Rattle.std.proofs.Common.{◌≡◌, ℕ, ◌*◌, ◌+◌, length}
use Rattle.node_words.specs.shapes.Tree.{Tree}
use Rattle.node_words.specs.Held.{AreHeld}
use Rattle.node_table.proofs.Taking.{Emptied}
use Rattle.node_table.specs.Acts.{OnlySharesChange}
use Rattle.node_table.specs.TableStates.{BelongsTo}
use Rattle.release.specs.Returns.{GaveRowBack}
use Rattle.release.proofs.+back.Given as goal

abbrev pub decreases-release : goal.decreases-release
decreases-release g l = 3 * l.share.level + 2

abbrev pub decreases-release_row : goal.decreases-release_row
decreases-release_row g l = 3 * l.level + 1

abbrev pub decreases-release_some : goal.decreases-release_some
decreases-release_some g l = 3 * l.level

abbrev pub invariant-release_row-loop-k : goal.invariant-release_row-loop-k
invariant-release_row-loop-k g l = record {
  of : BelongsTo l.table l.pass;
  only : OnlySharesChange l.initial.pass.view l.pass.view;
  emptied : Emptied l.fn.children l.rest l.k;
  long : length l.rest ≡ 8;
  gone : (row : ℕ → Tree) → AreHeld l.initial.pass.view.held l.fn.children row
      → GaveRowBack l.initial.pass.view row l.k l.pass.view l.initial.steps l.steps;
}
