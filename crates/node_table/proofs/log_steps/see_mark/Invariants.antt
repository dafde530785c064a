use Rattle.table_rule.specs.Views.{known_at}
use Rattle.std.proofs.Common.{◌≡◌, Some, ℕ}
use Rattle.core_laws.specs.places.WordIds.{Version}
use Rattle.std.specs.List.{Contains}
use Rattle.table_rule.specs.LogWords.{mark_of_words}
use Rattle.table_rule.specs.LogChanges.{log_knowing, with_seen_mark}
use Rattle.node_table.proofs.log_steps.see_mark.Given as goal

abbrev pub ghosts-load_as : goal.ghosts-load_as
ghosts-load_as a =
    record {
      tells = λ v k w.
          (w ≡ with_seen_mark (log_knowing v (Version a._about.now.0 7) k)
          (mark_of_words a._about.now.0 a._about.now.1 k))
          × Contains w.log.seen.marks (mark_of_words a._about.now.0 a._about.now.1 k)
          × ((n : ℕ) → known_at (Version a._about.now.0 7) v.log.words ≡ Some n → k ≡ n);
    }
