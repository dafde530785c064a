-- The words of all slots of a plan, and how they are read as books and keys.
use Rattle.std.specs.Prelude.{◌≡◌, ◌≢◌, ℕ, ◌-◌, ◌<◌, ◌≤◌, Option, Some, None, List, slice_index}
use Rattle.node_words.specs.declared.shapes.names.Name.{Name}
use Rattle.node_words.specs.declared.keys.Key.{Key}
use Rattle.node_words.specs.Plans.{Layout}
use Rattle.core_laws.specs.places.Names.{IsName, named, key_bits}
use Rattle.one_store.specs.declared.entries.key_words.Pairs.{Pairs}
use Rattle.one_store.specs.entries.Slots.{slot_place}
use Rattle.one_store.specs.entries.Rows.{item_in}
use Rattle.one_store.specs.entries.Coding.{key_from}

-- the books of each level's slots, the bits of the leaves' slots, and the words of those of each
-- level above, as far as the rows go; a slot behind them is free
pub record Written : Type 0 where
  pub plan : Layout
  pub books : List (List ℕ)
  pub bits : List ℕ
  pub pairs : List (List Pairs)

abbrev pub no_pairs : Pairs
no_pairs = record { first = 0; second = 0; third = 0; fourth = 0 }

-- the book of a name; it is live where this isn't 0
abbrev pub book_in : Written → Name → ℕ
book_in w n = item_in 0 w.books n.level (slot_place w.plan n)

-- the bits of a leaf's name, and the words of a node's
abbrev pub leaf_bits_in : Written → Name → ℕ
leaf_bits_in w n = slice_index w.bits (slot_place w.plan n)

abbrev pub pairs_in : Written → Name → Pairs
pairs_in w n = item_in no_pairs w.pairs (n.level - 1) (slot_place w.plan n)

-- the key of a name. A slot that was freed keeps its key
abbrev pub key_in : Written → Name → Key
key_in w n = key_from n.level (leaf_bits_in w n) (pairs_in w n)

-- the bits of a child that is a leaf, 0 where there is none
abbrev pub child_bits : Written → Option Name → ℕ
child_bits w None = 0
child_bits w (Some n) = key_bits (key_in w n)

-- a live name has the key
pub record HasEntry (w : Written) (n : Name) (key : Key) : Type 0 where
  pub is_name : IsName w.plan n
  pub live : 1 ≤ book_in w n
  pub key_is : key_in w n ≡ key

-- no live slot of the bucket has the key
pub record LacksKey (w : Written) (level bucket : ℕ) (key : Key) : Type 0 where
  pub each : (slot : ℕ) → slot < w.plan.cap → 1 ≤ book_in w (named level bucket slot)
      → key_in w (named level bucket slot) ≢ key

-- no live slot of this part of the bucket has the key
abbrev pub LacksKeyIn : Written → ℕ → ℕ → ℕ → ℕ → Key → Type 0
LacksKeyIn w level bucket from to key =
    (slot : ℕ) → slot < w.plan.cap → from ≤ slot → slot < to
    → 1 ≤ book_in w (named level bucket slot) → key_in w (named level bucket slot) ≢ key

-- the slots of a bucket below this one are live
abbrev pub AreLiveBelow : Written → ℕ → ℕ → ℕ → Type 0
AreLiveBelow w level bucket slots = (k : ℕ) → k < slots → 1 ≤ book_in w (named level bucket k)

-- the lowest slot of the bucket that isn't live
pub record IsLowestFree (w : Written) (level bucket slot : ℕ) : Type 0 where
  pub below : slot < w.plan.cap
  pub free : book_in w (named level bucket slot) ≡ 0
  pub lower : AreLiveBelow w level bucket slot
