use Rattle.std.proofs.Common.{◌∙◌, ap, sym, subst}
use Rattle.core_laws.specs.places.Names.{IsName}
use Rattle.one_store.specs.entries.Slots.{slot_place}
use Rattle.one_store.specs.entries.Rows.{items_of}
use Rattle.one_store.specs.entries.Words.{Written}
use Rattle.one_store.specs.entries.Changes.{SetsBook}
use Rattle.one_store.proofs.OfEntries.TagLaws.{sets_book, with_book}
use Rattle.one_store.proofs.entries.entries.EntryWords.set_book.Goals as goal

pub returns : goal.returns
returns c =
    let e = sym c.self.view_is in
    let at = c.place-i.ensures.value ∙ ap (λ (w : Written). slot_place w.plan c.args.n) e in
    let name = subst (λ (w : Written). IsName w.plan c.args.n) e c.requires.name in
    let s = c.self.inside in
    let was : Written =
    record { plan = s.plan; books = items_of s.books.items; bits = s.bits.items; pairs = items_of s.pairs.items } in
    subst (λ (w : Written). SetsBook w c.args.n c.args.book
    (with_book was (items_of c.put_in.new.rows.items))) c.self.view_is
    (sets_book was c.args.n c.from.result c.place-i.result c.args.book
    (items_of c.put_in.new.rows.items) name c.from.ensures at c.put_in.ensures.puts)
