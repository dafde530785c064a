use Rattle.std.proofs.Common.{◌*◌, ◌-◌}
use Rattle.node_words.specs.declared.keys.Key.TheVariants.{Node}
use Rattle.one_store.specs.entries.Words.{key_in}
use Rattle.one_store.specs.Known.{trees_below}
use Rattle.one_store.specs.Steps.{ReleasesRow}
use Rattle.one_store.proofs.store.OneStore.+back.Given as goal

abbrev pub decreases-release : goal.decreases-release
decreases-release g l = 3 * l.n.level

abbrev pub decreases-release_row : goal.decreases-release_row
decreases-release_row g l = 3 * l.level - 1

abbrev pub decreases-release_some : goal.decreases-release_some
decreases-release_some g l = 3 * l.level - 2

abbrev pub invariant-release_row-loop-k : goal.invariant-release_row-loop-k
invariant-release_row-loop-k g l =
    ReleasesRow l.initial.self
    (trees_below (key_in l.initial.self.words) (l.level - 1)
    (Node l.children)) l.k l.self l.initial.steps l.steps
