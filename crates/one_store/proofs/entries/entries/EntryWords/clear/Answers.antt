use Rattle.std.proofs.Common.{◌/◌, ◌%◌, ◌∙◌, ℕ, refl, ap, sym, subst, arith}
use Rattle.core_laws.specs.places.Names.{IsName}
use Rattle.one_store.specs.entries.Slots.{slot_place, block_place, bucket_place}
use Rattle.one_store.specs.entries.Rows.{items_of}
use Rattle.one_store.specs.entries.Words.{Written}
use Rattle.one_store.specs.entries.Changes.{SetsBook}
use Rattle.one_store.proofs.OfEntries.TagLaws.{sets_book, with_book}
use Rattle.one_store.proofs.OfEntries.EntriesLaws.{entries_clear, entries_with_room}
use Rattle.one_store.proofs.entries.entries.EntryWords.clear.Goals as goal

pub invariant_of-self : goal.invariant_of-self
invariant_of-self c =
    let e = sym c.self.view_is in
    let s = c.self.inside in
    let was : Written =
    record { plan = s.plan; books = items_of s.books.items; bits = s.bits.items; pairs = items_of s.pairs.items } in
    let at = c.place-i.ensures.value ∙ ap (λ (w : Written). slot_place w.plan c.args.n) e in
    let block =
    c.block_place-block.ensures.value
    ∙ ap (λ (k : ℕ). block_place c.args.self.now.plan c.args.n.level c.args.n.bucket
    (k / 16)) c.from-slot.ensures
    ∙ ap
    (λ (w : Written). block_place w.plan c.args.n.level c.args.n.bucket
    (c.args.n.slot / 16)) e in
    let bucket =
    c.bucket_place-bucket.ensures.value
    ∙ ap (λ (w : Written). bucket_place w.plan c.args.n.level c.args.n.bucket) e in
    let name = subst (λ (w : Written). IsName w.plan c.args.n) e c.requires in
    let sets =
    sets_book was c.args.n c.from-2.result c.place-i.result 0
    (items_of c.put_in.new.rows.items) name c.from-2.ensures at c.put_in.ensures.puts in
    entries_with_room _ _ _ _ _ _
    (entries_clear was _ c.args.n c.block_place-block.result _ c.bucket_place-bucket.result c.index.result.now c.min.result _ c.put_tag.new.row.items (items_of c.put_in.new.rows.items) c.self.invariant name c.put_in.ensures.puts.rows block
    (ap (λ (k : ℕ). k % 16) c.from-slot.ensures) c.put_tag.ensures.puts bucket c.index.ensures
    (omega (arith, c.min.ensures)) (omega (arith, c.min.ensures, c.from.ensures)) sets)
    c.put_in.ensures.rooms refl refl c.put_tag.ensures.room

pub returns : goal.returns
returns c =
    let e = sym c.self.view_is in
    let at = c.place-i.ensures.value ∙ ap (λ (w : Written). slot_place w.plan c.args.n) e in
    let name = subst (λ (w : Written). IsName w.plan c.args.n) e c.requires in
    let s = c.self.inside in
    let was : Written =
    record { plan = s.plan; books = items_of s.books.items; bits = s.bits.items; pairs = items_of s.pairs.items } in
    subst (λ (w : Written). SetsBook w c.args.n 0
    (with_book was (items_of c.put_in.new.rows.items))) c.self.view_is
    (sets_book was c.args.n c.from-2.result c.place-i.result 0
    (items_of c.put_in.new.rows.items) name c.from-2.ensures at c.put_in.ensures.puts)
