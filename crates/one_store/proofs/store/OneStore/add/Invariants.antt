use Rattle.std.proofs.Common.{◌-◌}
use Rattle.one_store.specs.entries.Words.{key_in}
use Rattle.one_store.proofs.OfNotes.Picks.{entered, full}
use Rattle.one_store.specs.Known.{trees_below}
use Rattle.one_store.specs.Steps.{tree_over, shape_over, sought_key}
use Rattle.one_store.proofs.store.OneStore.add.Given as goal

abbrev pub ghosts-note_entry : goal.ghosts-note_entry
ghosts-note_entry a = record {
  next = entered a.notes.now
      (trees_below (key_in a.words.now) (a.sought.now.level - 1) (sought_key a.sought.now))
      (tree_over a.sought.now.level (key_in a.words.now) a.n (sought_key a.sought.now))
      (shape_over a.sought.now.level (key_in a.words.now) (sought_key a.sought.now));
}

abbrev pub ghosts-note_full : goal.ghosts-note_full
ghosts-note_full a =
    record {
      next = full a.notes.now
          (record { level = a.sought.now.level; bucket = a.sought.now.bucket; shape = shape_over a.sought.now.level (key_in a.words.now) (sought_key a.sought.now) });
    }
