use Rattle.std.proofs.Common.{◌≡◌, ◌-◌, ◌∙◌, ℕ, refl, ap, sym, subst, arith}
use Rattle.core_laws.specs.places.Names.{IsName}
use Rattle.one_store.specs.entries.Slots.{slot_place}
use Rattle.one_store.specs.entries.Coding.{key_of}
use Rattle.one_store.specs.entries.Rows.{items_of}
use Rattle.one_store.specs.entries.Words.{Written, book_in}
use Rattle.one_store.specs.entries.Changes.{PutsKey}
use Rattle.one_store.proofs.OfEntries.TagLaws.{with_bits, with_pairs, puts_bits, puts_pairs}
use Rattle.one_store.proofs.OfEntries.EntriesLaws.{entries_bits, entries_pairs, entries_with_room}
use Rattle.one_store.proofs.entries.entries.EntryWords.put_key.Goals as goal

pub invariant_of-self : goal.invariant_of-self
invariant_of-self c =
    let e = sym c.self.view_is in
    let name = subst (λ (w : Written). IsName w.plan c.args.n) e c.requires.name in
    let free = subst (λ (w : Written). book_in w c.args.n ≡ 0) e c.requires.free in
    let at = c.place-i.ensures.value ∙ ap (λ (w : Written). slot_place w.plan c.args.n) e in
    entries_with_room _ _ _ _ _ _
    (entries_bits _ _ c.args.n c.place-i.result c.args.words.now.bits c.put.new.row.items c.self.invariant name c.if-n-eq0.true free at c.put.ensures.puts) refl c.put.ensures.room refl refl

pub invariant_of-self-else-n-eq0 : goal.invariant_of-self-else-n-eq0
invariant_of-self-else-n-eq0 c =
    let e = sym c.self.view_is in
    let name = subst (λ (w : Written). IsName w.plan c.args.n) e c.requires.name in
    let free = subst (λ (w : Written). book_in w c.args.n ≡ 0) e c.requires.free in
    let at = c.place-i.ensures.value ∙ ap (λ (w : Written). slot_place w.plan c.args.n) e in
    let row = ap (λ (l : ℕ). l - 1) c.from.ensures in
    entries_with_room _ _ _ _ _ _
    (entries_pairs _ _ c.args.n _ c.place-i.result c.args.words.now.pairs
    (items_of c.put_in.new.rows.items) c.self.invariant name
    (omega (arith, c.if-n-eq0.false)) free row at c.put_in.ensures.puts) refl refl c.put_in.ensures.rooms refl

pub returns-then-n-eq0 : goal.returns-then-n-eq0
returns-then-n-eq0 c =
    let e = sym c.self.view_is in
    let s = c.self.inside in
    let was : Written =
    record { plan = s.plan; books = items_of s.books.items; bits = s.bits.items; pairs = items_of s.pairs.items } in
    let name = subst (λ (w : Written). IsName w.plan c.args.n) e c.requires.name in
    let at = c.place-i.ensures.value ∙ ap (λ (w : Written). slot_place w.plan c.args.n) e in
    subst (λ (w : Written). PutsKey w c.args.n (key_of c.args.n.level c.args.words.now)
    (with_bits was c.put.new.row.items)) c.self.view_is
    (puts_bits was c.args.n c.place-i.result c.args.words.now.bits c.args.words.now.pairs c.put.new.row.items name c.if-n-eq0.true at c.put.ensures.puts)

pub returns-else-n-eq0 : goal.returns-else-n-eq0
returns-else-n-eq0 c =
    let e = sym c.self.view_is in
    let s = c.self.inside in
    let was : Written =
    record { plan = s.plan; books = items_of s.books.items; bits = s.bits.items; pairs = items_of s.pairs.items } in
    let name = subst (λ (w : Written). IsName w.plan c.args.n) e c.requires.name in
    let at = c.place-i.ensures.value ∙ ap (λ (w : Written). slot_place w.plan c.args.n) e in
    let row = ap (λ (l : ℕ). l - 1) c.from.ensures in
    subst (λ (w : Written). PutsKey w c.args.n (key_of c.args.n.level c.args.words.now)
    (with_pairs was (items_of c.put_in.new.rows.items))) c.self.view_is
    (puts_pairs was c.args.n _ c.place-i.result c.args.words.now.bits c.args.words.now.pairs
    (items_of c.put_in.new.rows.items) name
    (omega (arith, c.if-n-eq0.false)) row at c.put_in.ensures.puts)
