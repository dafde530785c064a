use Rattle.std.proofs.Common.{◌-◌, Some}
use Rattle.core_laws.specs.States.{tree_at}
use Rattle.one_store.specs.entries.Words.{key_in}
use Rattle.one_store.proofs.OfNotes.Picks.{freed}
use Rattle.one_store.specs.Known.{trees_below}
use Rattle.one_store.proofs.store.OneStore.free.Given as goal

abbrev pub ghosts-note_freeing : goal.ghosts-note_freeing
ghosts-note_freeing a =
    record {
      next = freed a.notes.now (tree_at (key_in a.words.now) a.n.level (Some a.n))
          (trees_below (key_in a.words.now) (a.n.level - 1) (key_in a.words.now a.n));
    }
