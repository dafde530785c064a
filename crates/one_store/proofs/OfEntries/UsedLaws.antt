-- Where the slots of buckets were never used, and where all are live.
use Rattle.std.proofs.Common.{inl, inr, ◌≡◌, ◌≢◌, ℕ, ◌+◌, ◌<◌, ◌≤◌, List, length, set, ap, sym, ◌∙◌, arith, get_or-set_other}
use Rattle.std.specs.Prelude.{slice_index, slice_index_or, replicate}
use Rattle.std.proofs.lemmas.Bool.{cases_eq}
use Rattle.node_words.specs.declared.shapes.names.Name.{Name}
use Rattle.core_laws.specs.places.Names.{IsName, named}
use Rattle.one_store.specs.entries.Slots.{bucket_place, number_of_buckets, IsBucket}
use Rattle.one_store.specs.entries.Words.{Written, book_in, AreLiveBelow}
use Rattle.one_store.specs.entries.Used.{IsUnusedFrom, AreUsed, AreFilled}
use Rattle.one_store.specs.entries.Changes.{SetsBook}
use Rattle.one_store.proofs.OfEntries.SlotLaws.{bucket_in, slot_name, cases_name, bucket_slot}
use Rattle.one_store.proofs.OfEntries.ReadLaws.{default_any}
use Rattle.one_store.proofs.OfEntries.TagLaws.{at_place, with_book, zero_read}

-- of a bucket, from the number that is kept or from an earlier slot that is as good
pub unused_from : (w : Written) (used : List ℕ) (level bucket i number from d : ℕ)
    → length used ≡ number_of_buckets w.plan → AreUsed w used → IsBucket w.plan level bucket
    → i ≡ bucket_place w.plan level bucket → number ≡ slice_index_or used i d
    → ((slot : ℕ) → slot < w.plan.cap → from ≤ slot → number ≤ slot)
    → IsUnusedFrom w level bucket from
unused_from w used level bucket i number from d long u b e f low slot lt le =
    let inside : i < length used = omega (arith, e, bucket_in w.plan level bucket b, long) in
    let at : slice_index used (bucket_place w.plan level bucket) ≡ number =
    ap (slice_index used) (sym e) ∙ sym (f ∙ default_any used i d 0 inside) in
    u.unused (named level bucket slot) (slot_name w.plan level bucket slot b lt)
    (omega (arith, at, low slot lt le))

-- where all slots are free, none was used
pub unused_free : (w : Written) (used : List ℕ) → ((n : Name) → book_in w n ≡ 0) → AreUsed w used
unused_free w used e = record { unused = λ m a le. e m }

pub unused_book : (w : Written) (used : List ℕ) (n : Name) (book : ℕ) (books : List (List ℕ))
    → AreUsed w used → 1 ≤ book_in w n → SetsBook w n book (with_book w books)
    → AreUsed (with_book w books) used
unused_book w used n book books u live sets = record {
  unused = λ m a le. elim (cases_name m n) [
    | inl q ↦ absurd (omega (arith, ap (book_in w) q, live, u.unused m a le))
    | inr ne ↦ sets.others.each m a ne ∙ u.unused m a le
  ];
}

pub unused_clear : (w : Written) (used : List ℕ) (n : Name) (books : List (List ℕ)) → AreUsed w used
    → SetsBook w n 0 (with_book w books) → AreUsed (with_book w books) used
unused_clear w used n books u sets = record {
  unused = λ m a le. elim (cases_name m n) [
    | inl q ↦ ap (book_in (with_book w books)) q ∙ sets.book_is
    | inr ne ↦ sets.others.each m a ne ∙ u.unused m a le
  ];
}

-- a slot is used, and its bucket's number lies behind it then
pub unused_entry : (w : Written) (used : List ℕ) (n : Name) (j number : ℕ) (books : List (List ℕ))
    → AreUsed w used → j ≡ bucket_place w.plan n.level n.bucket → j < length used
    → slice_index used j ≤ number → n.slot + 1 ≤ number → SetsBook w n 1 (with_book w books)
    → AreUsed (with_book w books) (set used j number)
unused_entry w used n j number books u f lt grows behind sets = record {
  unused = λ m a le. elim (cases_name m n) [
    | inl same ↦ (let slot : m.slot ≡ n.slot = ap (λ (k : Name). k.slot) same in
        let at : bucket_place w.plan m.level m.bucket ≡ j =
        ap (λ (k : Name). bucket_place w.plan k.level k.bucket) same ∙ sym f in
        absurd (omega (
          arith,
          at_place used j
              (bucket_place w.plan m.level m.bucket) number lt at,
          slot,
          le,
          behind,
        )))
    | inr ne ↦ sets.others.each m a ne ∙ u.unused m a (before m le)
  ];
}
  where
    before : (m : Name)
        → slice_index (set used j number) (bucket_place w.plan m.level m.bucket) ≤ m.slot
        → slice_index used (bucket_place w.plan m.level m.bucket) ≤ m.slot
    before m le = elim (cases_eq (bucket_place w.plan m.level m.bucket) j) [
      | inl q ↦ omega (
        arith,
        at_place used j (bucket_place w.plan m.level m.bucket) number lt q,
        ap
            (slice_index used) q,
        grows,
        le,
      )
      | inr ne ↦ omega
          (arith, get_or-set_other used j (bucket_place w.plan m.level m.bucket) number 0 ne, le)
    ]

-- of a bucket, below the number that is kept, or a lower one
pub live_to : (w : Written) (filled : List ℕ) (level bucket i number to used d : ℕ)
    → length filled ≡ number_of_buckets w.plan → AreFilled w filled → IsBucket w.plan level bucket
    → i ≡ bucket_place w.plan level bucket → number ≡ slice_index_or filled i d → to ≤ number
    → to ≤ used → used ≤ w.plan.cap → AreLiveBelow w level bucket to
live_to w filled level bucket i number to used d long l b e f low within few k lt =
    let inside : i < length filled = omega (arith, e, bucket_in w.plan level bucket b, long) in
    let at : slice_index filled (bucket_place w.plan level bucket) ≡ number =
    ap (slice_index filled) (sym e) ∙ sym (f ∙ default_any filled i d 0 inside) in
    l.live (named level bucket k) (slot_name w.plan level bucket k b (omega arith))
    (omega (arith, at, low, lt))

-- where no slot is known to be live, nothing is to be shown
pub filled_free : (w : Written) (filled : List ℕ) (n : ℕ) → filled ≡ replicate n 0
    → AreFilled w filled
filled_free w filled n e =
    record {
      live = λ m a lt. absurd
          (omega (
            arith,
            lt,
            ap
                (λ (row : List ℕ). slice_index row
                (bucket_place w.plan m.level m.bucket)) e,
            zero_read n
                (bucket_place w.plan m.level m.bucket),
          ));
    }

pub filled_book : (w : Written) (filled : List ℕ) (n : Name) (book : ℕ) (books : List (List ℕ))
    → AreFilled w filled → 1 ≤ book → SetsBook w n book (with_book w books)
    → AreFilled (with_book w books) filled
filled_book w filled n book books l some sets = record {
  live = λ m a lt. elim (cases_name m n) [
    | inl q ↦ omega (arith, ap (book_in (with_book w books)) q, sets.book_is, some)
    | inr ne ↦ omega (arith, sets.others.each m a ne, l.live m a lt)
  ];
}

-- a slot is free, and its bucket's number doesn't lie behind it then
pub filled_clear : (w : Written) (filled : List ℕ) (n : Name) (j number : ℕ) (books : List (List ℕ))
    → AreFilled w filled → j ≡ bucket_place w.plan n.level n.bucket → j < length filled
    → number ≤ slice_index filled j → number ≤ n.slot → SetsBook w n 0 (with_book w books)
    → AreFilled (with_book w books) (set filled j number)
filled_clear w filled n j number books l f lt falls before sets = record {
  live = λ m a below. elim (cases_eq (bucket_place w.plan m.level m.bucket) j) [
    | inl q ↦ (let under : m.slot < number = omega
        (arith, at_place filled j (bucket_place w.plan m.level m.bucket) number lt q, below) in
        let other : m ≢ n =
        λ p. absurd (omega (arith, ap (λ (k : Name). k.slot) p, under, before)) in
        omega (
          arith,
          sets.others.each m a other,
          l.live m a
              (omega (arith, ap (slice_index filled) q, falls, under)),
        ))
    | inr ne ↦ (let other : m ≢ n = λ p. ne
        (ap (λ (k : Name). bucket_place w.plan k.level k.bucket) p ∙ sym f) in
        omega (
          arith,
          sets.others.each m a other,
          l.live m a
              (omega (
                arith,
                get_or-set_other filled j
                    (bucket_place w.plan m.level m.bucket) number 0 ne,
                below,
              )),
        ))
  ];
}

-- a slot is live, and its bucket's number may go on behind it then
pub filled_entry : (w : Written) (filled : List ℕ) (n : Name) (j number : ℕ) (books : List (List ℕ))
    → AreFilled w filled → IsName w.plan n → j ≡ bucket_place w.plan n.level n.bucket
    → j < length filled → ((k : ℕ) → k < number → k ≢ n.slot → k < slice_index filled j)
    → SetsBook w n 1 (with_book w books) → AreFilled (with_book w books) (set filled j number)
filled_entry w filled n j number books l b f lt grows sets = record {
  live = λ m a below. elim (cases_name m n) [
    | inl q ↦ omega (arith, ap (book_in (with_book w books)) q, sets.book_is)
    | inr ne ↦ omega (arith, sets.others.each m a ne, l.live m a (before m a ne below))
  ];
}
  where
    before : (m : Name) → IsName w.plan m → m ≢ n
        → m.slot < slice_index (set filled j number) (bucket_place w.plan m.level m.bucket)
        → m.slot < slice_index filled (bucket_place w.plan m.level m.bucket)
    before m a ne below = elim (cases_eq (bucket_place w.plan m.level m.bucket) j) [
      | inl q ↦ omega (
        arith,
        ap (slice_index filled) q,
        grows m.slot
            (omega (
              arith,
              at_place filled j
                  (bucket_place w.plan m.level m.bucket) number lt q,
              below,
            ))
            (λ p. ne (bucket_slot w.plan m n a b (q ∙ f) p)),
      )
      | inr other ↦ omega (
        arith,
        get_or-set_other filled j
            (bucket_place w.plan m.level m.bucket) number 0 other,
        below,
      )
    ]
