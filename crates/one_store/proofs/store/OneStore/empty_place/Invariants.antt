use Rattle.std.proofs.Common.{Some}
use Rattle.core_laws.specs.States.{tree_at}
use Rattle.one_store.specs.entries.Words.{key_in}
use Rattle.one_store.proofs.OfNotes.Picks.{gained}
use Rattle.one_store.proofs.store.OneStore.empty_place.Given as goal

abbrev pub ghosts-note_gain : goal.ghosts-note_gain
ghosts-note_gain a =
    record { next = gained a.notes.now (tree_at (key_in a.words.now) a.n.level (Some a.n)) }
