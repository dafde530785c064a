-- The slots of a bucket, each empty or with an entry.
use Rattle.std.specs.Prelude.{◌≡◌, ◌≢◌, ℕ, ◌+◌, ◌<◌, ◌≤◌, Option, Some, None, List, length, All, slice_index_or, slice_set}
use Rattle.bucket_core.specs.declared.counted.Entry.{Entry}
use Rattle.bucket_core.specs.declared.counted.Lowered.{Lowered}
use Rattle.bucket_core.specs.declared.counted.Lowered.TheVariants.{Left, Last}

-- what stands in a slot
abbrev pub entry_in : {K : Type 0} → List (Option (Entry K)) → ℕ → Option (Entry K)
entry_in slots slot = slice_index_or slots slot None

-- its key, and its book, 0 where the slot is empty
abbrev pub key_of_slot : {K : Type 0} → Option (Entry K) → Option K
key_of_slot None = None
key_of_slot (Some e) = Some e.key

abbrev pub book_of_slot : {K : Type 0} → Option (Entry K) → ℕ
book_of_slot None = 0
book_of_slot (Some e) = e.book

-- the entry with another book
abbrev pub with_book : {K : Type 0} → Option (Entry K) → ℕ → Option (Entry K)
with_book None book = None
with_book (Some e) book = Some (record { key = e.key; book = book })

-- the slot has an entry
abbrev pub IsTaken : {K : Type 0} → List (Option (Entry K)) → ℕ → Type 0
IsTaken slots slot = entry_in slots slot ≢ None

-- an entry has one reference or more
abbrev pub IsCounted : {K : Type 0} → Option (Entry K) → Type 0
IsCounted None = Unit {0}
IsCounted (Some e) = 1 ≤ e.book

-- a bucket of 1 to 256 slots
pub record IsCountedBucket {K : Type 0} (slots : List (Option (Entry K))) : Type 0 where
  pub some : 1 ≤ length slots
  pub few : length slots ≤ 256
  pub counted : All IsCounted slots

-- the entry is there and has the key
abbrev pub HasKey : {K : Type 0} → K → Option (Entry K) → Type 0
HasKey key None = ⊥
HasKey key (Some e) = e.key ≡ key

-- no slot below this one has the key
pub record HasNone {K : Type 0} (slots : List (Option (Entry K))) (key : K)
    (below : ℕ) : Type 0 where
  pub each : (slot : ℕ) → slot < below → ¬ HasKey key (entry_in slots slot)

-- the first slot that has the key
pub record IsFirstWith {K : Type 0} (slots : List (Option (Entry K))) (key : K)
    (slot : ℕ) : Type 0 where
  pub below : slot < length slots
  pub at : HasKey key (entry_in slots slot)
  pub before : HasNone slots key slot

-- all slots below this one have entries
pub record AreInUse {K : Type 0} (slots : List (Option (Entry K))) (below : ℕ) : Type 0 where
  pub each : (slot : ℕ) → slot < below → IsTaken slots slot

-- the first slot that is empty
pub record IsFirstFree {K : Type 0} (slots : List (Option (Entry K))) (slot : ℕ) : Type 0 where
  pub below : slot < length slots
  pub at : entry_in slots slot ≡ None
  pub before : AreInUse slots slot

-- one slot has another content
abbrev pub with_entry : {K : Type 0} → List (Option (Entry K)) → ℕ → Option (Entry K)
    → List (Option (Entry K))
with_entry slots slot e = slice_set slots slot e

-- one reference less to an entry: the book that is left, or the key of one that had one and is gone
abbrev pub LowersBook : {K : Type 0} → Option (Entry K) → Lowered K → Option (Entry K) → Type 0
LowersBook old (Left book) new =
    (1 ≤ book) × (book_of_slot old ≡ book + 1) × (new ≡ with_book old book)
LowersBook old (Last key) new = (old ≡ Some (record { key = key; book = 1 })) × (new ≡ None)

-- the same of a slot's entry; all other slots stay
pub record LowersHere {K : Type 0} (old : List (Option (Entry K))) (slot : ℕ) (result : Lowered K)
    (new : List (Option (Entry K))) : Type 0 where
  pub after : Option (Entry K)
  pub entry : LowersBook (entry_in old slot) result after
  pub others : new ≡ with_entry old slot after
