use Rattle.std.proofs.Common.{sym, subst, ap, arith, ◌≤◌, ◌+◌, ℕ}
use Rattle.node_words.specs.shapes.Weights.{number_of_trees}
use Rattle.core_laws.specs.States.{IsLive}
use Rattle.one_store.proofs.OfNotes.Picks.{gained-notes}
use Rattle.one_store.specs.Known.{Known, core_of}
use Rattle.one_store.proofs.StoreLaws.{raise_store, book_low}
use Rattle.one_store.proofs.store.OneStore.raise.Goals as goal

pub note_gain-requires : goal.note_gain-requires
note_gain-requires c = gained-notes _ _

pub overflow_add-book : goal.overflow_add-book
overflow_add-book c =
    let e = sym c.self.view_is in
    let live = subst (λ (v : Known). IsLive v.words.plan (core_of v) c.args.n) e c.requires.live in
    let low = book_low _ _ c.args.n c.self.invariant live in
    let room = subst (λ (v : Known). number_of_trees v.told.held ≤ 4095) e c.requires.room in
    omega (arith, low, room, c.book-book.ensures)

pub invariant_of-self : goal.invariant_of-self
invariant_of-self c =
    let e = sym c.self.view_is in
    let live = subst (λ (v : Known). IsLive v.words.plan (core_of v) c.args.n) e c.requires.live in
    raise_store _ _ c.args.n _ c.self.invariant live
    (record {
      words = subst
          (λ (b : ℕ). Rattle.one_store.specs.entries.Changes.SetsBook c.self.inside.words c.args.n
          (b + 1) c.set_book.new.self) c.book-book.ensures c.set_book.ensures;
      roots = Rattle.std.proofs.Common.refl;
      told = c.note_gain.ensures;
    })
