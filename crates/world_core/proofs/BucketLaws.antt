-- Entries of a bucket have references.
use Rattle.std.proofs.Common.{◌≢◌, ℕ, ◌<◌, ◌≤◌, refl, arith, Some, None, Option, List, length}
use Rattle.node_words.specs.declared.keys.Key.{Key}
use Rattle.bucket_core.specs.declared.counted.Entry.{Entry}
use Rattle.bucket_core.specs.Buckets.{book_of_slot, entry_in, HasKey, IsCountedBucket, IsCounted, IsFirstFree, IsFirstWith, AreInUse}
use Rattle.world_core.specs.Changes.{AreLive}

counted_book : (e : Option (Entry Key)) → IsCounted e → e ≢ None → 0 < book_of_slot e
counted_book None counted there = absurd (there refl)
counted_book (Some e) counted there = omega (arith, counted)

has_some : (key : Key) (e : Option (Entry Key)) → HasKey key e → e ≢ None
has_some key None has = absurd has
has_some key (Some e) has = λ none. (let no : ⊥ = cc in no)

pub found_live : (slots : List (Option (Entry Key))) (key : Key) (slot : ℕ) → IsCountedBucket slots
    → IsFirstWith slots key slot → 0 < book_of_slot (entry_in slots slot)
found_live slots key slot bucket found = counted_book (entry_in slots slot)
    (bucket.counted slot None found.below) (has_some key (entry_in slots slot) found.at)

pub taken_live : (slots : List (Option (Entry Key))) (below : ℕ) → IsCountedBucket slots
    → below ≤ length slots → AreInUse slots below → AreLive slots below
taken_live slots below bucket le taken = record {
  each = λ slot lt. counted_book (entry_in slots slot)
      (bucket.counted slot None (omega arith)) (taken.each slot lt);
}

pub lower_live : (slots : List (Option (Entry Key))) (slot : ℕ) → IsCountedBucket slots
    → IsFirstFree slots slot → AreLive slots slot
lower_live slots slot bucket free =
    let below = free.below in taken_live slots slot bucket (omega arith) free.before
