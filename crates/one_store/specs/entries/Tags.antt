-- A byte beside the words of each slot, by which a key is found. No contract for users shows it.
use Rattle.std.specs.Prelude.{◌≡◌, ◌≢◌, ℕ, ◌+◌, ◌-◌, ◌*◌, ◌/◌, ◌%◌, ◌^◌, ◌<◌, ◌≤◌}
use Rattle.std.specs.Prelude.{List, length, slice_index, slice_index_or, replicate}
use Rattle.std.proofs.Common.{zero, suc}
use Rattle.node_words.specs.declared.shapes.names.Name.{Name}
use Rattle.node_words.specs.Plans.{Layout, IsPlan}
use Rattle.core_laws.specs.places.Names.{IsName}
use Rattle.one_store.specs.declared.entries.key_words.Pairs.{Pairs}
use Rattle.one_store.specs.declared.entries.key_words.KeyWords.{KeyWords}
use Rattle.one_store.specs.entries.Slots.{block_place, number_of_buckets, number_of_blocks, slots_at, IsBucket, AreEnds}
use Rattle.core_laws.specs.places.WordIds.{levels}
use Rattle.one_store.specs.entries.Words.{Written, book_in, leaf_bits_in, pairs_in}
use Rattle.one_store.specs.entries.Used.{AreUsed, AreFilled}

-- a word of 64 bits times a number, and a sum of two, as far as 64 bits go
abbrev pub times : ℕ → ℕ → ℕ
times word number = word * number % 2 ^ 64

abbrev pub tag_plus : ℕ → ℕ → ℕ
tag_plus a b = (a + b) % 2 ^ 64

-- the words of a key mixed into one
unfoldable pub mixed_words : ℕ → ℕ → Pairs → ℕ
mixed_words zero bits pairs = times bits 0x9E3779B97F4A7C15
mixed_words (suc level) bits pairs =
    tag_plus
    (tag_plus (times pairs.first 0x9E3779B97F4A7C15) (times pairs.second 0xBF58476D1CE4E5B9))
    (tag_plus (times pairs.third 0x94D049BB133111EB) (times pairs.fourth 0xD6E8FEB86659FD93))

-- a byte that tells most keys of a bucket apart, and isn't 0
unfoldable pub tag_of_word : ℕ → ℕ
tag_of_word word = word / 2 ^ 56 % 255 + 1

abbrev pub tag_of_words : ℕ → ℕ → Pairs → ℕ
tag_of_words level bits pairs = tag_of_word (mixed_words level bits pairs)

abbrev pub tag_of : ℕ → KeyWords → ℕ
tag_of level words = tag_of_words level words.bits words.pairs

-- the tags of a block; behind the end of their row all slots are free
abbrev pub no_tags : List ℕ
no_tags = replicate 16 0

abbrev pub tags_at : List (List ℕ) → ℕ → List ℕ
tags_at tags block = slice_index_or tags block no_tags

-- the tag of a slot
abbrev pub tag_in : Layout → List (List ℕ) → Name → ℕ
tag_in p tags n =
    slice_index (tags_at tags (block_place p n.level n.bucket (n.slot / 16))) (n.slot % 16)

-- the tag stands at a place of a block now, and every other place has what it had
pub record PutsTag (old : List (List ℕ)) (block k tag : ℕ) (new : List (List ℕ))
    : Type 0 where
  pub here : slice_index (tags_at new block) k ≡ tag
  pub others : (i j : ℕ) → (i ≡ block → j ≢ k)
      → slice_index (tags_at new i) j ≡ slice_index (tags_at old i) j

-- a live slot has the tag of its key's words, and a free one has 0, as have the places of the last
-- blocks for which the buckets have no slots
pub record AreTagged (w : Written) (tags : List (List ℕ)) : Type 0 where
  pub free : (n : Name) → IsName w.plan n → book_in w n ≡ 0 → tag_in w.plan tags n ≡ 0
  pub live : (n : Name) → IsName w.plan n → 1 ≤ book_in w n
      → tag_in w.plan tags n ≡ tag_of_words n.level (leaf_bits_in w n) (pairs_in w n)
  pub none : (n : Name) → IsBucket w.plan n.level n.bucket → w.plan.cap ≤ n.slot
      → tag_in w.plan tags n ≡ 0

-- what stands beside the words of slots: the buckets of each level and of those before it, how many
-- buckets there are, tags by blocks, two numbers for each bucket, and how many items the rows have
-- room for
pub record BesideSlots : Type 0 where
  pub buckets : List ℕ
  pub ends : List ℕ
  pub width : ℕ
  pub tags : List (List ℕ)
  pub used : List ℕ
  pub filled : List ℕ
  pub rooms_for_books : List ℕ
  pub room_for_bits : ℕ
  pub rooms_for_pairs : List ℕ
  pub room_for_tags : ℕ

-- each slot of the plan has room
pub record HasRoomForPlan (p : Layout) (b : BesideSlots) : Type 0 where
  pub books : (l : ℕ) → l < levels p → slots_at p l ≤ slice_index b.rooms_for_books l
  pub bits : slots_at p 0 ≤ b.room_for_bits
  pub pairs : (l : ℕ) → 1 ≤ l → l < levels p
      → slots_at p l ≤ slice_index b.rooms_for_pairs (l - 1)
  pub tags : number_of_blocks p ≤ b.room_for_tags

pub record AreEntries (w : Written) (b : BesideSlots) : Type 0 where
  pub plan_is : IsPlan w.plan
  pub buckets_are : b.buckets ≡ w.plan.buckets
  pub ends_are : AreEnds w.plan b.ends
  pub width_is : b.width ≡ number_of_buckets w.plan
  pub books_are : length w.books ≡ levels w.plan
  pub pairs_are : length w.pairs + 1 ≡ levels w.plan
  pub room_is : HasRoomForPlan w.plan b
  pub tagged : AreTagged w b.tags
  pub used_are : length b.used ≡ number_of_buckets w.plan
  pub unused : AreUsed w b.used
  pub filled_are : length b.filled ≡ number_of_buckets w.plan
  pub all_live : AreFilled w b.filled

-- no byte of this part of a row is the one
abbrev pub LacksByte : List ℕ → ℕ → ℕ → ℕ → Type 0
LacksByte row from to byte = (i : ℕ) → from ≤ i → i < to → slice_index row i ≢ byte

-- the first place of the byte in this part of a row
pub record IsFirstPlace (row : List ℕ) (from to byte i : ℕ) : Type 0 where
  pub at_least : from ≤ i
  pub below : i < to
  pub there : slice_index row i ≡ byte
  pub earlier : LacksByte row from i byte
