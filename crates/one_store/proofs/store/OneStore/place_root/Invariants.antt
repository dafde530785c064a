use Rattle.std.proofs.Common.{Some}
use Rattle.core_laws.specs.States.{tree_at}
use Rattle.one_store.specs.entries.Words.{key_in}
use Rattle.one_store.proofs.OfNotes.Picks.{lost}
use Rattle.one_store.proofs.store.OneStore.place_root.Given as goal

abbrev pub ghosts-note_loss : goal.ghosts-note_loss
ghosts-note_loss a =
    record { next = lost a.notes.now (tree_at (key_in a.words.now) a.n.level (Some a.n)) }
