use Rattle.std.proofs.Common.{◌≡◌, ◌/◌, ◌%◌, ◌∙◌, ℕ, refl, ap, sym, subst, arith}
use Rattle.node_words.specs.Plans.{Layout}
use Rattle.core_laws.specs.places.Names.{IsName}
use Rattle.one_store.specs.entries.Slots.{slot_place, block_place, bucket_place}
use Rattle.one_store.specs.entries.Coding.{key_of}
use Rattle.one_store.specs.entries.Rows.{items_of}
use Rattle.one_store.specs.entries.Words.{Written, key_in}
use Rattle.one_store.specs.entries.Changes.{PutsKey}
use Rattle.one_store.proofs.OfEntries.TagLaws.{sets_book, puts_entry, tag_same}
use Rattle.one_store.proofs.OfEntries.EntriesLaws.{entries_entry, entries_with_room}
use Rattle.one_store.proofs.entries.entries.EntryWords.open.Goals as goal

pub invariant_of-self : goal.invariant_of-self
invariant_of-self c =
    let e = sym c.self.view_is in
    let s = c.self.inside in
    let mid : Written =
    record { plan = s.plan; books = items_of s.books.items; bits = s.bits.items; pairs = items_of s.pairs.items } in
    let at = c.place-i.ensures.value ∙ ap (λ (w : Written). slot_place w.plan c.args.n) e in
    let here =
    subst (λ (p : Layout). IsName p c.args.n) (sym c.put_key.ensures.plan) c.requires.name in
    let name = subst (λ (w : Written). IsName w.plan c.args.n) e here in
    let block =
    c.block_place-block.ensures.value
    ∙ ap (λ (k : ℕ). block_place c.put_key.new.self.plan c.args.n.level c.args.n.bucket
    (k / 16)) c.from-slot.ensures
    ∙ ap
    (λ (w : Written). block_place w.plan c.args.n.level c.args.n.bucket
    (c.args.n.slot / 16)) e in
    let bucket =
    c.bucket_place-bucket.ensures.value
    ∙ ap (λ (w : Written). bucket_place w.plan c.args.n.level c.args.n.bucket) e in
    let key =
    subst (λ (w : Written). key_in w c.args.n
    ≡ key_of c.args.n.level c.args.words) e c.put_key.ensures.key_is in
    let sets =
    sets_book mid c.args.n c.from-2.result c.place-i.result 1
    (items_of c.put_in.new.rows.items) name c.from-2.ensures at c.put_in.ensures.puts in
    entries_with_room _ _ _ _ _ _
    (entries_entry mid _ c.args.n c.block_place-block.result _ c.bucket_place-bucket.result c.tag_of.result c.index.result.now _ _ c.index-2.result.now c.filled_with.result _ c.put_tag.new.row.items (items_of c.put_in.new.rows.items) c.self.invariant name c.put_in.ensures.puts.rows block
    (ap (λ (k : ℕ). k % 16) c.from-slot.ensures)
    (c.tag_of.ensures
    ∙ sym (tag_same c.args.n.level _ _ _ _ key)) c.put_tag.ensures.puts bucket c.index.ensures (omega arith) (omega arith) c.index-2.ensures c.filled_with.ensures sets)
    c.put_in.ensures.rooms refl refl c.put_tag.ensures.room

pub returns : goal.returns
returns c =
    let e = sym c.self.view_is in
    let at = c.place-i.ensures.value ∙ ap (λ (w : Written). slot_place w.plan c.args.n) e in
    let here =
    subst (λ (p : Layout). IsName p c.args.n) (sym c.put_key.ensures.plan) c.requires.name in
    let name = subst (λ (w : Written). IsName w.plan c.args.n) e here in
    let s = c.self.inside in
    let mid : Written =
    record { plan = s.plan; books = items_of s.books.items; bits = s.bits.items; pairs = items_of s.pairs.items } in
    puts_entry c.args.self.now mid c.args.n (key_of c.args.n.level c.args.words)
    (items_of c.put_in.new.rows.items)
    (subst (λ (w : Written). PutsKey c.args.self.now c.args.n
    (key_of c.args.n.level c.args.words) w) e c.put_key.ensures)
    (sets_book mid c.args.n c.from-2.result c.place-i.result 1
    (items_of c.put_in.new.rows.items) name c.from-2.ensures at c.put_in.ensures.puts)
