-- The words and tags of slots stay right.
use Rattle.std.proofs.Common.{inl, inr, ◌≡◌, ◌≢◌, ℕ, zero, suc, ◌-◌, ◌/◌, ◌%◌, ◌<◌, ◌≤◌, List, [], length, set, refl, ap, sym, subst, ◌∙◌, arith, get_or-set_same, get_or-set_other}
use Rattle.std.specs.Prelude.{slice_index, replicate}
use Rattle.std.proofs.lemmas.List.{length-replicate, get_or-replicate, get_or_past}
use Rattle.std.proofs.lemmas.Bool.{cases_eq, cases_lt}
use Rattle.node_words.specs.declared.shapes.names.Name.{Name}
use Rattle.node_words.specs.declared.keys.Key.{Key}
use Rattle.node_words.specs.Plans.{Layout}
use Rattle.core_laws.specs.places.Names.{IsName}
use Rattle.one_store.specs.declared.entries.key_words.Pairs.{Pairs}
use Rattle.one_store.specs.entries.Slots.{slot_place, block_place, IsBucket}
use Rattle.one_store.specs.entries.Coding.{key_from}
use Rattle.one_store.specs.entries.Words.{Written, no_pairs, book_in, key_in, leaf_bits_in, pairs_in}
use Rattle.one_store.specs.entries.Tags.{tag_of_word, tag_of_words, mixed_words, no_tags, tags_at, tag_in, PutsTag, AreTagged}
use Rattle.one_store.specs.entries.Rows.{PutsItem, PutsIn, item_in}
use Rattle.one_store.specs.entries.Changes.{OtherKeysStay, SetsBook, PutsKey, PutsEntry}
use Rattle.one_store.proofs.OfEntries.SlotLaws.{place_one, tag_one, name_bucket, cases_name}
use Rattle.one_store.proofs.OfEntries.WordLaws.{one_leaf, one_row}
use Rattle.one_store.proofs.OfEntries.ReadLaws.{leaf_key, row_key}

pub tag_some : (level bits : ℕ) (pairs : Pairs) → 1 ≤ tag_of_words level bits pairs
unfolding tag_of_word
tag_some level bits pairs = omega arith

-- one key has one tag
pub tag_same : (level a b : ℕ) (r s : Pairs) → key_from level a r ≡ key_from level b s
    → tag_of_words level a r ≡ tag_of_words level b s
unfolding mixed_words
tag_same zero a b r s e =
    let f : a ≡ b = one_leaf a b r s e in ap (λ (x : ℕ). tag_of_words zero x s) f
tag_same (suc level) a b r s e =
    let g : r ≡ s = one_row (suc level) a b r s (omega arith) e in
    ap (λ (x : Pairs). tag_of_words (suc level) b x) g

-- what was written at a place, and what stands elsewhere
pub at_place : (xs : List ℕ) (i j v : ℕ) → i < length xs → j ≡ i → slice_index (set xs i v) j ≡ v
at_place xs i j v lt e = ap (slice_index (set xs i v)) e ∙ get_or-set_same xs i v 0 lt

abbrev pub with_book : Written → List (List ℕ) → Written
with_book w books = record w { books = books }

abbrev pub with_bits : Written → List ℕ → Written
with_bits w bits = record w { bits = bits }

abbrev pub with_pairs : Written → List (List Pairs) → Written
with_pairs w pairs = record w { pairs = pairs }

pub sets_book : (w : Written) (n : Name) (k i book : ℕ) (books : List (List ℕ)) → IsName w.plan n
    → k ≡ n.level → i ≡ slot_place w.plan n → PutsIn 0 w.books k i book books
    → SetsBook w n book (with_book w books)
sets_book w n k i book books b f e puts = record {
  keys = refl;
  book_is = ap (λ (l : ℕ). item_in 0 books l (slot_place w.plan n)) (sym f)
      ∙ ap (item_in 0 books k) (sym e) ∙ puts.here;
  others = record {
    each = λ m a ne. puts.others m.level (slot_place w.plan m)
        (λ p q. ne (place_one w.plan m n a b (p ∙ f) (q ∙ e)));
  };
}

-- a leaf's slot has these bits now, and every other name has its key
pub puts_bits : (w : Written) (n : Name) (i item : ℕ) (pairs : Pairs) (bits : List ℕ)
    → IsName w.plan n → n.level ≡ 0 → i ≡ slot_place w.plan n → PutsItem 0 w.bits i item bits
    → PutsKey w n (key_from n.level item pairs) (with_bits w bits)
puts_bits w n i item pairs bits b z e puts = record {
  plan = refl;
  books = refl;
  key_is = leaf_key n.level _ item _ pairs z (ap (slice_index bits) (sym e) ∙ puts.here);
  others = record {
    each = λ m a ne. elim (cases_lt 0 m.level) [
      | inl above ↦ row_key m.level _ _ _ _ above refl
      | inr leaf ↦
          (let y : m.level
          ≡ 0 = omega (arith, leaf) in leaf_key m.level _ _ _ _ y
          (puts.others (slot_place w.plan m)
          (λ q. ne (place_one w.plan m n a b (y ∙ sym z) (q ∙ e)))))
    ];
  };
}

-- a node's slot has these words now, and every other name has its key
pub puts_pairs : (w : Written) (n : Name) (k i bits : ℕ) (item : Pairs) (pairs : List (List Pairs))
    → IsName w.plan n → 1 ≤ n.level → k ≡ n.level - 1 → i ≡ slot_place w.plan n
    → PutsIn no_pairs w.pairs k i item pairs
    → PutsKey w n (key_from n.level bits item) (with_pairs w pairs)
puts_pairs w n k i bits item pairs b h f e puts = record {
  plan = refl;
  books = refl;
  key_is = row_key n.level _ bits _ item h
      (ap (λ (l : ℕ). item_in no_pairs pairs l (slot_place w.plan n)) (sym f)
      ∙ ap (item_in no_pairs pairs k) (sym e) ∙ puts.here);
  others = record {
    each = λ m a ne. elim (cases_lt 0 m.level) [
      | inl above ↦ row_key m.level _ _ _ _ above
          (puts.others (m.level - 1) (slot_place w.plan m)
          (λ p q. ne (place_one w.plan m n a b (omega (arith, above, h, f, p)) (q ∙ e))))
      | inr leaf ↦ leaf_key m.level _ _ _ _ (omega (arith, leaf)) refl
    ];
  };
}

-- a slot whose key was put is live then
pub puts_entry : (old mid : Written) (n : Name) (key : Key) (books : List (List ℕ))
    → PutsKey old n key mid → SetsBook mid n 1 (with_book mid books)
    → PutsEntry old n key (with_book mid books)
puts_entry old mid n key books p sets = record {
  plan = p.plan;
  key_is = p.key_is;
  book_is = sets.book_is;
  other_keys = p.others;
  other_books = record {
    each = λ m a ne.
        sets.others.each m (subst (λ (q : Layout). IsName q m) (sym p.plan) a) ne
        ∙ ap (λ (rows : List (List ℕ)). item_in 0 rows m.level (slot_place mid.plan m)) p.books
        ∙ ap (λ (q : Layout). item_in 0 old.books m.level (slot_place q m)) p.plan;
  };
}

-- slots without words are free
pub zero_read : (n i : ℕ) → slice_index (replicate n 0) i ≡ 0
zero_read n i =
    elim
    (cases_lt i n) [
      | inl below ↦ get_or-replicate n i 0 0 below
      | inr past ↦ get_or_past
          (replicate n 0) i 0 (omega (arith, past, length-replicate {A = ℕ} n 0))
    ]

pub tagged_free : (w : Written) (tags : List (List ℕ)) → ((n : Name) → book_in w n ≡ 0) → tags ≡ []
    → AreTagged w tags
tagged_free w tags e f = record {
  free = λ m a z. untagged m;
  live = λ m a h. absurd (omega (arith, h, e m));
  none = λ m a past. untagged m;
}
  where
    untagged : (m : Name) → tag_in w.plan tags m ≡ 0
    untagged m = ap (λ (row : List (List ℕ)). tag_in w.plan row m) f ∙ zero_read 16 (m.slot % 16)

-- a book that stays over 0 keeps the tags right
pub tagged_book : (w : Written) (tags : List (List ℕ)) (n : Name) (book : ℕ) (books : List (List ℕ))
    → AreTagged w tags → 1 ≤ book_in w n → 1 ≤ book → SetsBook w n book (with_book w books)
    → AreTagged (with_book w books) tags
tagged_book w tags n book books t live some sets = record {
  free = λ m a z. elim (cases_name m n) [
    | inl q ↦ absurd (omega (arith, ap (book_in (with_book w books)) q, sets.book_is, z, some))
    | inr ne ↦ t.free m a (sym (sets.others.each m a ne) ∙ z)
  ];
  live = λ m a h. elim (cases_name m n) [
    | inl q ↦ t.live m a (omega (arith, ap (book_in w) q, live))
    | inr ne ↦ t.live m a (omega (arith, h, sets.others.each m a ne))
  ];
  none = t.none;
}

-- a tag that was put at a name's place is the name's, and the others stay
own_tag : (w : Written) (old tags : List (List ℕ)) (n : Name) (block k tag : ℕ)
    → block ≡ block_place w.plan n.level n.bucket (n.slot / 16) → k ≡ n.slot % 16
    → PutsTag old block k tag tags → tag_in w.plan tags n ≡ tag
own_tag w old tags n block k tag f g puts =
    ap (λ (b : ℕ). slice_index (tags_at tags b) (n.slot % 16)) (sym f)
    ∙ ap (slice_index (tags_at tags block)) (sym g) ∙ puts.here

other_tag : (w : Written) (old tags : List (List ℕ)) (m n : Name) (block k tag : ℕ)
    → IsBucket w.plan m.level m.bucket → IsName w.plan n
    → block ≡ block_place w.plan n.level n.bucket (n.slot / 16) → k ≡ n.slot % 16
    → PutsTag old block k tag tags → m ≢ n → tag_in w.plan tags m ≡ tag_in w.plan old m
other_tag w old tags m n block k tag a b f g puts ne =
    puts.others (block_place w.plan m.level m.bucket (m.slot / 16)) (m.slot % 16)
    (λ p q. ne (tag_one w.plan m n a (name_bucket w.plan n b) (p ∙ f) (q ∙ g)))

-- the places for which there are no slots keep 0
none_tagged : (w : Written) (old tags : List (List ℕ)) (m n : Name) (block k tag : ℕ)
    → AreTagged w old → IsBucket w.plan m.level m.bucket → w.plan.cap ≤ m.slot → IsName w.plan n
    → block ≡ block_place w.plan n.level n.bucket (n.slot / 16) → k ≡ n.slot % 16
    → PutsTag old block k tag tags → tag_in w.plan tags m ≡ 0
none_tagged w old tags m n block k tag t a past b f g puts =
    other_tag w old tags m n block k tag a b f g puts
    (λ q. absurd (omega (arith, past, b.slot_in, ap (λ (l : Name). l.slot) q)))
    ∙ t.none m a past

pub tagged_clear : (w : Written) (old tags : List (List ℕ)) (n : Name) (block k : ℕ)
    (books : List (List ℕ)) → AreTagged w old → IsName w.plan n
    → block ≡ block_place w.plan n.level n.bucket (n.slot / 16) → k ≡ n.slot % 16
    → PutsTag old block k 0 tags → SetsBook w n 0 (with_book w books)
    → AreTagged (with_book w books) tags
tagged_clear w old tags n block k books t b f g changes sets = record {
  free = λ m a z. elim (cases_name m n) [
    | inl q ↦ ap (tag_in w.plan tags) q ∙ own_tag w old tags n block k 0 f g changes
    | inr ne ↦ other m a ne ∙ t.free m a (sym (sets.others.each m a ne) ∙ z)
  ];
  live = λ m a h. elim (cases_name m n) [
    | inl q ↦ absurd (omega (arith, ap (book_in (with_book w books)) q, sets.book_is, h))
    | inr ne ↦ other m a ne ∙ t.live m a (omega (arith, h, sets.others.each m a ne))
  ];
  none = λ m a past. none_tagged w old tags m n block k 0 t a past b f g changes;
}
  where
    other : (m : Name) → IsName w.plan m → m ≢ n → tag_in w.plan tags m ≡ tag_in w.plan old m
    other m a ne = other_tag w old tags m n block k 0 (name_bucket w.plan m a) b f g changes ne

-- the key of a free slot has no tag yet
pub tagged_key : (w : Written) (tags : List (List ℕ)) (n : Name) (bits : List ℕ)
    (pairs : List (List Pairs)) → AreTagged w tags → book_in w n ≡ 0
    → OtherKeysStay w.plan n (key_in w) (key_in (record w { bits = bits; pairs = pairs }))
    → AreTagged (record w { bits = bits; pairs = pairs }) tags
tagged_key w tags n bits pairs t free others = record {
  free = t.free;
  live = λ m a h. t.live m a h
      ∙ tag_same m.level _ _ _ _
      (sym (others.each m a (λ q. absurd (omega (arith, h, free, ap (book_in w) q)))));
  none = t.none;
}

pub tagged_entry : (w : Written) (old tags : List (List ℕ)) (n : Name) (block k tag : ℕ)
    (books : List (List ℕ)) → AreTagged w old → IsName w.plan n
    → block ≡ block_place w.plan n.level n.bucket (n.slot / 16) → k ≡ n.slot % 16
    → tag ≡ tag_of_words n.level (leaf_bits_in w n) (pairs_in w n) → PutsTag old block k tag tags
    → SetsBook w n 1 (with_book w books) → AreTagged (with_book w books) tags
tagged_entry w old tags n block k tag books t b f g is changes sets = record {
  free = λ m a z. elim (cases_name m n) [
    | inl q ↦ absurd (omega (arith, ap (book_in (with_book w books)) q, sets.book_is, z))
    | inr ne ↦ other m a ne ∙ t.free m a (sym (sets.others.each m a ne) ∙ z)
  ];
  live = λ m a h. elim (cases_name m n) [
    | inl q ↦ ap (tag_in w.plan tags) q ∙ own_tag w old tags n block k tag f g changes ∙ is
        ∙ ap (λ (l : Name). tag_of_words l.level (leaf_bits_in w l) (pairs_in w l)) (sym q)
    | inr ne ↦ other m a ne ∙ t.live m a (omega (arith, h, sets.others.each m a ne))
  ];
  none = λ m a past. none_tagged w old tags m n block k tag t a past b f g changes;
}
  where
    other : (m : Name) → IsName w.plan m → m ≢ n → tag_in w.plan tags m ≡ tag_in w.plan old m
    other m a ne = other_tag w old tags m n block k tag (name_bucket w.plan m a) b f g changes ne

-- a tag that is put where the row reaches
pub puts_tag : (old mid : List (List ℕ)) (block k tag : ℕ)
    → ((i : ℕ) → tags_at mid i ≡ tags_at old i) → block < length mid
    → k < length (tags_at mid block)
    → PutsTag old block k tag (set mid block (set (tags_at mid block) k tag))
puts_tag old mid block k tag same inside place = record {
  here = ap (λ (row : List ℕ). slice_index row k)
      (get_or-set_same mid block (set (tags_at mid block) k tag) no_tags inside)
      ∙ get_or-set_same (tags_at mid block) k tag 0 place;
  others = λ i j ne. elim (cases_eq i block) [
    | inl q ↦ (let here = ap (tags_at (set mid block (set (tags_at mid block) k tag))) q
        ∙ get_or-set_same mid block (set (tags_at mid block) k tag) no_tags inside in
        ap (λ (row : List ℕ). slice_index row j) here
        ∙ get_or-set_other (tags_at mid block) k j tag 0 (ne q)
        ∙ ap (λ (b : ℕ). slice_index (tags_at mid b) j) (sym q)
        ∙ ap (λ (row : List ℕ). slice_index row j) (same i))
    | inr away ↦ ap (λ (row : List ℕ). slice_index row j)
        (get_or-set_other mid block i (set (tags_at mid block) k tag) no_tags away ∙ same i)
  ];
}
