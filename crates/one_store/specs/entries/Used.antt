-- How far the slots of buckets were ever used, and up to where all are live. Contracts for users
-- show the first alone.
use Rattle.std.specs.Prelude.{◌≡◌, ℕ, ◌<◌, ◌≤◌, List, slice_index}
use Rattle.node_words.specs.declared.shapes.names.Name.{Name}
use Rattle.core_laws.specs.places.Names.{IsName, named}
use Rattle.one_store.specs.entries.Slots.{bucket_place}
use Rattle.one_store.specs.entries.Words.{Written, book_in}

-- no slot of the bucket from this one on is live
abbrev pub IsUnusedFrom : Written → ℕ → ℕ → ℕ → Type 0
IsUnusedFrom w level bucket from =
    (slot : ℕ) → slot < w.plan.cap → from ≤ slot → book_in w (named level bucket slot) ≡ 0

-- no slot is live from where its bucket's slots were never used
pub record AreUsed (w : Written) (used : List ℕ) : Type 0 where
  pub unused : (n : Name) → IsName w.plan n
      → slice_index used (bucket_place w.plan n.level n.bucket) ≤ n.slot → book_in w n ≡ 0

-- each slot below its bucket's number is live
pub record AreFilled (w : Written) (filled : List ℕ) : Type 0 where
  pub live : (n : Name) → IsName w.plan n
      → n.slot < slice_index filled (bucket_place w.plan n.level n.bucket) → 1 ≤ book_in w n
