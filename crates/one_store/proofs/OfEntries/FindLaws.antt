-- What tags and words tell of the slots of a bucket.
use Rattle.std.proofs.Common.{inl, inr, ◌≡◌, ◌≢◌, ℕ, ◌+◌, ◌-◌, ◌*◌, ◌/◌, ◌%◌, ◌<◌, ◌≤◌, List, ap, sym, ◌∙◌, arith}
use Rattle.std.specs.Prelude.{slice_index}
use Rattle.std.proofs.lemmas.Bool.{cases_lt}
use Rattle.node_words.specs.declared.shapes.names.Name.{Name}
use Rattle.node_words.specs.Plans.{Layout}
use Rattle.core_laws.specs.places.Names.{IsName, named}
use Rattle.one_store.specs.declared.entries.key_words.Pairs.{Pairs}
use Rattle.one_store.specs.entries.Slots.{block_place, IsBucket}
use Rattle.one_store.specs.entries.Coding.{key_from}
use Rattle.one_store.specs.entries.Words.{Written, book_in, key_in, leaf_bits_in, pairs_in, HasEntry, LacksKeyIn, IsLowestFree, AreLiveBelow}
use Rattle.one_store.specs.entries.Tags.{tag_of_words, tags_at, tag_in, AreTagged, LacksByte, IsFirstPlace}
use Rattle.one_store.proofs.OfEntries.SlotLaws.{slot_name}
use Rattle.one_store.proofs.OfEntries.TagLaws.{tag_some, tag_same}

-- a slot with no tag is free, and one with a tag is live
free_slot : (w : Written) (tags : List (List ℕ)) (n : Name) → AreTagged w tags → IsName w.plan n
    → tag_in w.plan tags n ≡ 0 → book_in w n ≡ 0
free_slot w tags n t a z =
    elim
    (cases_lt 0 (book_in w n)) [
      | inl some ↦ absurd
          (omega (
            arith,
            t.live n a some,
            tag_some n.level (leaf_bits_in w n)
                (pairs_in w n),
            z,
          ))
      | inr none ↦ omega arith
    ]

live_slot : (w : Written) (tags : List (List ℕ)) (n : Name) → AreTagged w tags → IsName w.plan n
    → tag_in w.plan tags n ≢ 0 → 1 ≤ book_in w n
live_slot w tags n t a ne =
    elim
    (cases_lt 0 (book_in w n)) [
      | inl some ↦ some
      | inr none ↦ absurd
          (ne (t.free n a (omega arith)))
    ]

-- these are the tags of a block of a bucket
abbrev pub AreTagsOf : Layout → List (List ℕ) → ℕ → ℕ → ℕ → List ℕ → Type 0
AreTagsOf p tags level bucket block row = row ≡ tags_at tags (block_place p level bucket block)

-- the slot of a place in a block
abbrev pub slot_at : ℕ → ℕ → ℕ
slot_at block k = block * 16 + k

slot_tag : (p : Layout) (tags : List (List ℕ)) (level bucket block k : ℕ) (row : List ℕ) → k < 16
    → AreTagsOf p tags level bucket block row
    → tag_in p tags (named level bucket (slot_at block k)) ≡ slice_index row k
slot_tag p tags level bucket block k row lt e =
    let of_block : slot_at block k / 16 ≡ block = omega (arith, lt) in
    let at : slot_at block k % 16 ≡ k = omega (arith, lt) in
    ap (λ (b : ℕ). slice_index (tags_at tags (block_place p level bucket b))
    (slot_at block k % 16)) of_block
    ∙ ap (slice_index (tags_at tags (block_place p level bucket block))) at
    ∙ ap (λ (r : List ℕ). slice_index r k) (sym e)

-- a place with a tag has a slot
pub slot_in : (w : Written) (tags : List (List ℕ)) (level bucket block k : ℕ) (row : List ℕ)
    → AreTagged w tags → IsBucket w.plan level bucket → AreTagsOf w.plan tags level bucket block row
    → k < 16 → 1 ≤ slice_index row k → slot_at block k < w.plan.cap
slot_in w tags level bucket block k row t b e lt some =
    elim (cases_lt (slot_at block k) w.plan.cap) [
      | inl less ↦ less
      | inr past ↦ absurd
          (omega (
            arith,
            t.none
                (named level bucket
                (slot_at block k)) b past,
            slot_tag w.plan tags level bucket block k row lt e,
            some,
          ))
    ]

-- the slots of the bucket below this one are live
abbrev pub AreLiveTo : Written → ℕ → ℕ → ℕ → Type 0
AreLiveTo w level bucket to =
    (slot : ℕ) → slot < w.plan.cap → slot < to → 1 ≤ book_in w (named level bucket slot)

-- where no tag of a block up to some place is 0, and the slots before the block are live, the slots
-- up to there are
pub lives_to : (w : Written) (tags : List (List ℕ)) (level bucket block to : ℕ) (row : List ℕ)
    → AreTagged w tags → IsBucket w.plan level bucket → AreTagsOf w.plan tags level bucket block row
    → to ≤ 16 → AreLiveTo w level bucket (block * 16) → LacksByte row 0 to 0
    → AreLiveTo w level bucket (slot_at block to)
lives_to w tags level bucket block to row t b e few before none slot lt le =
    elim (cases_lt slot (block * 16)) [
      | inl low ↦ before slot lt low
      | inr high ↦ (let k : ℕ = slot - block * 16 in
          let is : slot ≡ slot_at block k = omega (arith, high) in
          let at =
          ap (λ (s : ℕ). tag_in w.plan tags (named level bucket s)) is
          ∙ slot_tag w.plan tags level bucket block k row (omega (arith, le, high, few)) e in
          live_slot w tags (named level bucket slot) t (slot_name w.plan level bucket slot b lt)
          (λ z. none k (omega arith) (omega (arith, le, high)) (sym at ∙ z)))
    ]

pub lowest_free : (w : Written) (tags : List (List ℕ)) (level bucket block k : ℕ) (row : List ℕ)
    → AreTagged w tags → IsBucket w.plan level bucket → AreTagsOf w.plan tags level bucket block row
    → AreLiveTo w level bucket (block * 16) → IsFirstPlace row 0 16 0 k
    → slot_at block k < w.plan.cap → IsLowestFree w level bucket (slot_at block k)
lowest_free w tags level bucket block k row t b e before first lt = record {
  below = lt;
  free = free_slot w tags (named level bucket (slot_at block k)) t
      (slot_name w.plan level bucket (slot_at block k) b lt)
      (slot_tag w.plan tags level bucket block k row first.below e ∙ first.there);
  lower = λ slot le. lives_to w tags level bucket block k row t b e
      (omega (arith, first.below)) before first.earlier slot (omega (arith, le, lt)) le;
}

pub none_free : (w : Written) (tags : List (List ℕ)) (level bucket block k : ℕ) (row : List ℕ)
    → AreTagged w tags → IsBucket w.plan level bucket → AreTagsOf w.plan tags level bucket block row
    → AreLiveTo w level bucket (block * 16) → IsFirstPlace row 0 16 0 k
    → w.plan.cap ≤ slot_at block k → AreLiveBelow w level bucket w.plan.cap
none_free w tags level bucket block k row t b e before first past slot lt =
    lives_to w tags level bucket block k row t b e
    (omega (arith, first.below)) before first.earlier slot lt (omega (arith, lt, past))

-- a slot with the tag and the words of the key has the key
pub has_key : (w : Written) (tags : List (List ℕ)) (level bucket block from k bits tag : ℕ)
    (pairs : Pairs) (row : List ℕ) → AreTagged w tags → IsBucket w.plan level bucket
    → AreTagsOf w.plan tags level bucket block row → tag ≡ tag_of_words level bits pairs
    → IsFirstPlace row from 16 tag k
    → key_in w (named level bucket (slot_at block k)) ≡ key_from level bits pairs
    → HasEntry w (named level bucket (slot_at block k)) (key_from level bits pairs)
has_key w tags level bucket block from k bits tag pairs row t b e f first key =
    let some : 1 ≤ slice_index row k = omega (arith, first.there, f, tag_some level bits pairs) in
    let name =
    slot_name w.plan level bucket (slot_at block k) b
    (slot_in w tags level bucket block k row t b e first.below some) in
    record {
      is_name = name;
      live = live_slot w tags (named level bucket (slot_at block k)) t name
          (λ z. omega (arith, z, slot_tag w.plan tags level bucket block k row first.below e, some));
      key_is = key;
    }

-- slots with other tags have other keys
pub lacks_to : (w : Written) (tags : List (List ℕ)) (level bucket block from to bits tag : ℕ)
    (pairs : Pairs) (row : List ℕ) → AreTagged w tags → IsBucket w.plan level bucket
    → AreTagsOf w.plan tags level bucket block row → tag ≡ tag_of_words level bits pairs → to ≤ 16
    → LacksKeyIn w level bucket (block * 16) (slot_at block from) (key_from level bits pairs)
    → LacksByte row from to tag
    → LacksKeyIn w level bucket (block * 16) (slot_at block to) (key_from level bits pairs)
lacks_to w tags level bucket block from to bits tag pairs row t b e f few before none slot lt low high live =
    elim (cases_lt slot (slot_at block from)) [
      | inl less ↦ before slot lt low less live
      | inr more ↦ (let k : ℕ = slot - block * 16 in
          let is : slot ≡ slot_at block k = omega (arith, low) in
          let at =
          ap (λ (s : ℕ). tag_in w.plan tags (named level bucket s)) is
          ∙ slot_tag w.plan tags level bucket block k row (omega (arith, low, high, few)) e in
          let name = slot_name w.plan level bucket slot b lt in
          λ q. none k (omega (arith, more, low)) (omega (arith, high, low))
          (sym at ∙ t.live (named level bucket slot) name live ∙ tag_same level _ bits _ pairs q
          ∙ sym f))
    ]

-- a slot with other words has another key
pub lacks_one : (w : Written) (level bucket block k bits : ℕ) (pairs : Pairs)
    → LacksKeyIn w level bucket (block * 16) (slot_at block k) (key_from level bits pairs)
    → key_in w (named level bucket (slot_at block k)) ≢ key_from level bits pairs
    → LacksKeyIn w level bucket (block * 16) (slot_at block (k + 1)) (key_from level bits pairs)
lacks_one w level bucket block k bits pairs before other slot lt low high live =
    elim (cases_lt slot (slot_at block k)) [
      | inl less ↦ before slot lt low less live
      | inr more ↦ (let is : slot_at block k ≡ slot = omega (arith, more, high) in
          λ p. other (ap (λ (s : ℕ). key_in w (named level bucket s)) is ∙ p))
    ]
