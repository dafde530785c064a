-- Lists of levels with no entries.
use Rattle.std.proofs.Common.{◌≡◌, ℕ, ◌<◌, ◌∙◌, ap, arith, inl, inr, None, Option, List, [], length, get_or, replicate}
use Rattle.std.proofs.lemmas.Bool.{cases_lt}
use Rattle.std.proofs.lemmas.List.{get_or_past, get_or-replicate, length-replicate}
use Rattle.node_words.specs.declared.shapes.names.Name.{Name}
use Rattle.node_words.specs.declared.keys.Key.{Key}
use Rattle.node_words.specs.Plans.{Layout}
use Rattle.core_laws.specs.places.WordIds.{levels, buckets_at}
use Rattle.bucket_core.specs.declared.counted.Entry.{Entry}
use Rattle.world_core.specs.Slots.{SlotRow, BucketRow, IsLaidOut, bucket_at, entry_at}

abbrev no_entry : Option (Entry Key)
no_entry = None

-- each level has its buckets of empty slots
pub record AreEmpty (p : Layout) (all : List BucketRow) : Type 0 where
  pub heights : length all ≡ levels p
  pub each : (k : ℕ) → k < levels p
      → get_or all k [] ≡ replicate (buckets_at p k) (replicate p.cap None)

bucket_empty : (p : Layout) (all : List BucketRow) (level bucket : ℕ) → AreEmpty p all
    → level < levels p → bucket < buckets_at p level
    → bucket_at all level bucket ≡ replicate p.cap None
bucket_empty p all level bucket e low inside =
    ap (λ (l : BucketRow). get_or l bucket []) (e.each level low)
    ∙ get_or-replicate (buckets_at p level) bucket (replicate p.cap no_entry) [] inside

pub empty_laid : (p : Layout) (all : List BucketRow) → AreEmpty p all → IsLaidOut p all
empty_laid p all e = record {
  heights = e.heights;
  buckets = λ level low. ap length (e.each level low)
      ∙ length-replicate (buckets_at p level) (replicate p.cap no_entry);
  slots = λ level bucket low inside. ap length (bucket_empty p all level bucket e low inside)
      ∙ length-replicate p.cap no_entry;
}

none_in : (n k : ℕ) → get_or (replicate n no_entry) k no_entry ≡ no_entry
none_in n k = elim (cases_lt k n) [
  | inl lt ↦ get_or-replicate n k no_entry no_entry lt
  | inr ge ↦ get_or_past (replicate n no_entry) k no_entry
      (let e = length-replicate n no_entry in omega arith)
]

pub empty_free : (p : Layout) (all : List BucketRow) → AreEmpty p all → (n : Name)
    → entry_at all n ≡ None
empty_free p all e n = elim (cases_lt n.level (levels p)) [
  | inr high ↦ ap (λ (l : BucketRow). get_or (get_or l n.bucket []) n.slot None)
      (get_or_past all n.level [] (let h = e.heights in omega arith))
  | inl low ↦ elim (cases_lt n.bucket (buckets_at p n.level)) [
    | inl inside ↦ ap (λ (b : SlotRow). get_or b n.slot None)
        (bucket_empty p all n.level n.bucket e low inside)
        ∙ none_in p.cap n.slot
    | inr past ↦ ap (λ (b : SlotRow). get_or b n.slot None)
        (ap (λ (l : BucketRow). get_or l n.bucket []) (e.each n.level low)
        ∙ get_or_past _ n.bucket []
        (let w = length-replicate (buckets_at p n.level)
        (replicate p.cap no_entry) in omega arith))
  ]
]

-- levels that were made one after another with the plan's numbers are empty
pub all_empty : (p : Layout) (all : List BucketRow) (level cap : ℕ) (buckets : List ℕ)
    → level ≡ levels p → cap ≡ p.cap → buckets ≡ p.buckets → length all ≡ level
    → ((k : ℕ) → k < level → get_or all k [] ≡ replicate (get_or buckets k 0) (replicate cap None))
    → AreEmpty p all
all_empty p all level cap buckets of_level of_cap of_buckets heights each = record {
  heights = heights ∙ of_level;
  each = λ k lt. each k (omega arith)
      ∙ ap (λ (bs : List ℕ). replicate (get_or bs k 0) (replicate cap no_entry)) of_buckets
      ∙ ap (λ (n : ℕ). replicate (buckets_at p k) (replicate n no_entry)) of_cap;
}
