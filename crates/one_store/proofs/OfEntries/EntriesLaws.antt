-- The struct's invariant, where all slots are free and after each call that writes.
use Rattle.std.proofs.Common.{◌≡◌, ◌≢◌, ℕ, ◌+◌, ◌-◌, ◌*◌, ◌/◌, ◌%◌, ◌^◌, ◌<◌, ◌≤◌, List, [], Vec, Global, length, set, refl, ap, sym, ◌∙◌, arith}
use Rattle.std.specs.Prelude.{slice_index, slice_index_or, replicate}
use Rattle.std.proofs.lemmas.List.{length-set, length-replicate}
use Rattle.core_laws.specs.Sums.{sum_below}
use Rattle.node_words.specs.declared.shapes.names.Name.{Name}
use Rattle.node_words.specs.Plans.{Layout, IsPlan}
use Rattle.core_laws.specs.places.WordIds.{levels, buckets_at}
use Rattle.core_laws.specs.places.Names.{IsName}
use Rattle.one_store.specs.declared.entries.key_words.Pairs.{Pairs}
use Rattle.one_store.specs.entries.Slots.{slot_place, block_place, bucket_place, number_of_buckets, slots_at, AreEnds}
use Rattle.one_store.specs.entries.Rows.{PutsItem, PutsIn, AreEmptyRows, rooms_of}
use Rattle.one_store.specs.entries.Words.{Written, book_in, key_in, leaf_bits_in, pairs_in, no_pairs}
use Rattle.one_store.specs.entries.Tags.{tag_of_words, PutsTag, BesideSlots, HasRoomForPlan, AreEntries}
use Rattle.one_store.specs.entries.Changes.{OtherKeysStay, SetsBook}
use Rattle.one_store.proofs.OfEntries.SlotLaws.{bucket_in, name_bucket}
use Rattle.one_store.proofs.OfEntries.ReadLaws.{default_any}
use Rattle.one_store.proofs.OfEntries.TagLaws.{with_book, with_bits, with_pairs, puts_bits, puts_pairs, tagged_free, tagged_key, tagged_book, tagged_clear, tagged_entry}
use Rattle.one_store.proofs.OfEntries.UsedLaws.{unused_free, unused_book, unused_clear, unused_entry, filled_free, filled_book, filled_clear, filled_entry}

-- where the levels begin, as the code finds it
pub ends_given : (p : Layout) (buckets ends : List ℕ) → buckets ≡ p.buckets
    → ((l : ℕ) → l ≤ 11 → slice_index ends l ≡ sum_below l (λ level. slice_index buckets level))
    → ((l : ℕ) → l ≤ 11 → slice_index ends l < 2 ^ 20) → AreEnds p ends
ends_given p buckets ends f at small = record {
  end = λ l le. at l le ∙ ap (λ (row : List ℕ). sum_below l (λ level. slice_index row level)) f;
  small = small;
}

pub last_end : (p : Layout) (ends : List ℕ) (l : ℕ) → IsPlan p → AreEnds p ends → l ≡ levels p
    → slice_index ends l ≡ number_of_buckets p
last_end p ends l plan at e =
    let top : l ≤ 11 = omega (arith, e, plan.side_high) in
    at.end l top ∙ ap (λ (k : ℕ). sum_below k (buckets_at p)) e

pub entries_free : (w : Written) (b : BesideSlots) → IsPlan w.plan → b.buckets ≡ w.plan.buckets
    → AreEnds w.plan b.ends → b.width ≡ number_of_buckets w.plan → length w.books ≡ levels w.plan
    → length w.pairs + 1 ≡ levels w.plan → HasRoomForPlan w.plan b
    → ((k : ℕ) → slice_index_or w.books k [] ≡ []) → b.tags ≡ [] → b.used ≡ replicate b.width 0
    → b.filled ≡ replicate b.width 0 → AreEntries w b
entries_free w b plan row at wide books pairs room none d e f =
    let free : (n : Name) → book_in w n ≡ 0 =
    λ n. ap (λ (r : List ℕ). slice_index r (slot_place w.plan n)) (none n.level) in
    record {
      plan_is = plan;
      buckets_are = row;
      ends_are = at;
      width_is = wide;
      books_are = books;
      pairs_are = pairs;
      room_is = room;
      tagged = tagged_free w b.tags free d;
      used_are = ap length e ∙ length-replicate b.width 0 ∙ wide;
      unused = unused_free w b.used free;
      filled_are = ap length f ∙ length-replicate b.width 0 ∙ wide;
      all_live = filled_free w b.filled b.width f;
    }

pub entries_book : (w : Written) (b : BesideSlots) (n : Name) (book : ℕ) (books : List (List ℕ))
    → AreEntries w b → length books ≡ length w.books → 1 ≤ book_in w n → 1 ≤ book
    → SetsBook w n book (with_book w books) → AreEntries (with_book w books) b
entries_book w b n book books h rows live some sets = record {
  plan_is = h.plan_is;
  buckets_are = h.buckets_are;
  ends_are = h.ends_are;
  width_is = h.width_is;
  books_are = rows ∙ h.books_are;
  pairs_are = h.pairs_are;
  room_is = h.room_is;
  tagged = tagged_book w b.tags n book books h.tagged live some sets;
  used_are = h.used_are;
  unused = unused_book w b.used n book books h.unused live sets;
  filled_are = h.filled_are;
  all_live = filled_book w b.filled n book books h.all_live some sets;
}

pub entries_clear : (w : Written) (b : BesideSlots) (n : Name) (block place k was number d : ℕ)
    (tags : List (List ℕ)) (books : List (List ℕ)) → AreEntries w b → IsName w.plan n
    → length books ≡ length w.books → block ≡ block_place w.plan n.level n.bucket (n.slot / 16)
    → place ≡ n.slot % 16 → PutsTag b.tags block place 0 tags
    → k ≡ bucket_place w.plan n.level n.bucket → was ≡ slice_index_or b.filled k d → number ≤ was
    → number ≤ n.slot → SetsBook w n 0 (with_book w books)
    → AreEntries (with_book w books) (record b { tags = tags; filled = set b.filled k number })
entries_clear w b n block place k was number d tags books h a rows f g changes q read falls before sets =
    let inside : k < length b.filled =
    omega (
      arith,
      bucket_in w.plan n.level n.bucket
          (name_bucket w.plan n a),
      h.filled_are,
      q,
    ) in
    let low : number ≤ slice_index b.filled k =
    omega (arith, read ∙ default_any b.filled k d 0 inside, falls) in
    record {
      plan_is = h.plan_is;
      buckets_are = h.buckets_are;
      ends_are = h.ends_are;
      width_is = h.width_is;
      books_are = rows ∙ h.books_are;
      pairs_are = h.pairs_are;
      room_is = record { books = h.room_is.books; bits = h.room_is.bits; pairs = h.room_is.pairs; tags = h.room_is.tags };
      tagged = tagged_clear w b.tags tags n block place books h.tagged a f g changes sets;
      used_are = h.used_are;
      unused = unused_clear w b.used n books h.unused sets;
      filled_are = length-set b.filled k number ∙ h.filled_are;
      all_live = filled_clear w b.filled n k number books h.all_live q inside low before sets;
    }

pub entries_key : (w : Written) (b : BesideSlots) (n : Name) (bits : List ℕ)
    (pairs : List (List Pairs)) → AreEntries w b → length pairs ≡ length w.pairs → book_in w n ≡ 0
    → OtherKeysStay w.plan n (key_in w) (key_in (record w { bits = bits; pairs = pairs }))
    → AreEntries (record w { bits = bits; pairs = pairs }) b
entries_key w b n bits pairs h rows free others = record {
  plan_is = h.plan_is;
  buckets_are = h.buckets_are;
  ends_are = h.ends_are;
  width_is = h.width_is;
  books_are = h.books_are;
  pairs_are = ap (λ (k : ℕ). k + 1) rows ∙ h.pairs_are;
  room_is = h.room_is;
  tagged = tagged_key w b.tags n bits pairs h.tagged free others;
  used_are = h.used_are;
  unused = record { unused = h.unused.unused };
  filled_are = h.filled_are;
  all_live = record { live = h.all_live.live };
}

pub entries_bits : (w : Written) (b : BesideSlots) (n : Name) (i item : ℕ) (bits : List ℕ)
    → AreEntries w b → IsName w.plan n → n.level ≡ 0 → book_in w n ≡ 0 → i ≡ slot_place w.plan n
    → PutsItem 0 w.bits i item bits → AreEntries (with_bits w bits) b
entries_bits w b n i item bits h a z free e puts =
    entries_key w b n bits w.pairs h refl free
    (puts_bits w n i item no_pairs bits a z e puts).others

pub entries_pairs : (w : Written) (b : BesideSlots) (n : Name) (k i : ℕ) (item : Pairs)
    (pairs : List (List Pairs)) → AreEntries w b → IsName w.plan n → 1 ≤ n.level → book_in w n ≡ 0
    → k ≡ n.level - 1 → i ≡ slot_place w.plan n → PutsIn no_pairs w.pairs k i item pairs
    → AreEntries (with_pairs w pairs) b
entries_pairs w b n k i item pairs h a above free f e puts =
    entries_key w b n w.bits pairs h puts.rows free
    (puts_pairs w n k i 0 item pairs a above f e puts).others

pub entries_entry : (w : Written) (b : BesideSlots) (n : Name)
    (block place k tag was number d were filled d2 : ℕ) (tags : List (List ℕ))
    (books : List (List ℕ)) → AreEntries w b → IsName w.plan n → length books ≡ length w.books
    → block ≡ block_place w.plan n.level n.bucket (n.slot / 16) → place ≡ n.slot % 16
    → tag ≡ tag_of_words n.level (leaf_bits_in w n) (pairs_in w n)
    → PutsTag b.tags block place tag tags → k ≡ bucket_place w.plan n.level n.bucket
    → was ≡ slice_index_or b.used k d → was ≤ number → n.slot + 1 ≤ number
    → were ≡ slice_index_or b.filled k d2 → ((s : ℕ) → s < filled → s ≢ n.slot → s < were)
    → SetsBook w n 1 (with_book w books)
    → AreEntries (with_book w books)
    (record b { tags = tags; used = set b.used k number; filled = set b.filled k filled })
entries_entry w b n block place k tag was number d were filled d2 tags books h a rows f g is changes q read grows behind read2 goes_on sets =
    let inside : k < length b.used =
    omega (arith, bucket_in w.plan n.level n.bucket (name_bucket w.plan n a), h.used_are, q) in
    let low : slice_index b.used k ≤ number =
    omega (arith, read ∙ default_any b.used k d 0 inside, grows) in
    let within : k < length b.filled =
    omega (
      arith,
      bucket_in w.plan n.level n.bucket
          (name_bucket w.plan n a),
      h.filled_are,
      q,
    ) in
    let were_read : were ≡ slice_index b.filled k = read2 ∙ default_any b.filled k d2 0 within in
    record {
      plan_is = h.plan_is;
      buckets_are = h.buckets_are;
      ends_are = h.ends_are;
      width_is = h.width_is;
      books_are = rows ∙ h.books_are;
      pairs_are = h.pairs_are;
      room_is = record { books = h.room_is.books; bits = h.room_is.bits; pairs = h.room_is.pairs; tags = h.room_is.tags };
      tagged = tagged_entry w b.tags tags n block place tag books h.tagged a f g is changes sets;
      used_are = length-set b.used k number ∙ h.used_are;
      unused = unused_entry w b.used n k number books h.unused q inside low behind sets;
      filled_are = length-set b.filled k filled ∙ h.filled_are;
      all_live = filled_entry w b.filled n k filled books h.all_live a q within
          (λ s lt ne. omega (arith, goes_on s lt ne, were_read)) sets;
    }

-- the rows have the room that they had
pub entries_with_room : (w : Written) (b : BesideSlots) (books : List ℕ) (bits : ℕ) (pairs : List ℕ)
    (tags : ℕ) → AreEntries w b → books ≡ b.rooms_for_books → bits ≡ b.room_for_bits
    → pairs ≡ b.rooms_for_pairs → tags ≡ b.room_for_tags
    → AreEntries w
    (record b { rooms_for_books = books; room_for_bits = bits; rooms_for_pairs = pairs; room_for_tags = tags })
entries_with_room w b books bits pairs tags h e f g t = record {
  plan_is = h.plan_is;
  buckets_are = h.buckets_are;
  ends_are = h.ends_are;
  width_is = h.width_is;
  books_are = h.books_are;
  pairs_are = h.pairs_are;
  room_is = record {
    books = λ l lt. omega (arith, h.room_is.books l lt, ap (λ (r : List ℕ). slice_index r l) e);
    bits = omega (arith, h.room_is.bits, f);
    pairs = λ l above lt. omega
        (arith, h.room_is.pairs l above lt, ap (λ (r : List ℕ). slice_index r (l - 1)) g);
    tags = omega (arith, h.room_is.tags, t);
  };
  tagged = h.tagged;
  used_are = h.used_are;
  unused = h.unused;
  filled_are = h.filled_are;
  all_live = h.all_live;
}

-- each slot of the levels from the first one on has room in empty rows
pub rows_room : {A : Type 0} (p : Layout) (buckets : List ℕ) (first number cap : ℕ)
    (rows : List (Vec A Global)) → AreEmptyRows buckets first number cap rows → buckets ≡ p.buckets
    → cap ≡ p.cap → (l : ℕ) → first ≤ l → l < first + number
    → slots_at p l ≤ slice_index (rooms_of rows) (l - first)
rows_room p buckets first number cap rows e f g l low lt =
    let at : first + (l - first) ≡ l = omega (arith, low) in
    let same : slots_at p l ≡ slice_index buckets (first + (l - first)) * cap =
    ap (λ (row : List ℕ). slice_index row l * p.cap) (sym f)
    ∙ ap (λ (k : ℕ). slice_index buckets l * k) (sym g)
    ∙ ap (λ (j : ℕ). slice_index buckets j * cap) (sym at) in
    omega (arith, same, e.room (l - first) (omega (arith, low, lt)))
