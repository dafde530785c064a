use Rattle.std.proofs.Common.{sym, subst, refl, ◌≤◌, ◌-◌, ℕ}
use Rattle.node_words.specs.Held.{HoldsName}
use Rattle.one_store.specs.entries.Words.{book_in}
use Rattle.one_store.specs.entries.Changes.{SetsBook}
use Rattle.one_store.proofs.OfNotes.Picks.{lost-notes}
use Rattle.one_store.specs.Known.{Known}
use Rattle.one_store.proofs.StoreLaws.{lower_store, held_name, held_tree}
use Rattle.one_store.proofs.store.OneStore.lower.Goals as goal

pub book-book-requires : goal.book-book-requires
book-book-requires c =
    (held_name _ _ c.args.n c.self.invariant
    (subst (λ (v : Known). HoldsName v.told.held c.args.n)
    (sym c.self.view_is) c.requires.held)).name

pub note_loss-requires : goal.note_loss-requires
note_loss-requires c =
    lost-notes _ _
    (held_tree _ _ c.args.n c.self.invariant
    (subst (λ (v : Known). HoldsName v.told.held c.args.n)
    (sym c.self.view_is) c.requires.held))

pub set_book-requires-clause-name : goal.set_book-requires-clause-name
set_book-requires-clause-name c =
    (held_name _ _ c.args.n c.self.invariant
    (subst (λ (v : Known). HoldsName v.told.held c.args.n)
    (sym c.self.view_is) c.requires.held)).name

pub invariant_of-self : goal.invariant_of-self
invariant_of-self c =
    let e = sym c.self.view_is in
    let h = subst (λ (v : Known). HoldsName v.told.held c.args.n) e c.requires.held in
    let more = subst (λ (v : Known). 2 ≤ book_in v.words c.args.n) e c.requires.more in
    lower_store _ _ c.args.n _ c.self.invariant h more
    (record {
      words = subst
          (λ (b : ℕ). SetsBook c.self.inside.words c.args.n
          (b - 1) c.set_book.new.self) c.book-book.ensures c.set_book.ensures;
      roots = refl;
      told = c.note_loss.ensures;
    })
