-- Different names stand at different places.
use Rattle.std.proofs.Common.{◌≡◌, ◌≢◌, ◌⊎◌, ℕ, zero, suc, ◌+◌, ◌-◌, ◌*◌, ◌/◌, ◌%◌, ◌^◌, ◌<◌, ◌≤◌, List, inl, inr, ap, sym, ◌∙◌, subst, arith}
use Rattle.std.proofs.lemmas.Bool.{cases_order, cases_eq}
use Rattle.std.proofs.lemmas.Nat.{mul-add-lt, same_from_place}
use Rattle.core_laws.specs.Sums.{sum_below, sum_below-suc}
use Rattle.node_words.specs.declared.shapes.names.Name.{Name}
use Rattle.node_words.proofs.OfShapes.TreeEqual.{same_name}
use Rattle.node_words.specs.Plans.{Layout, IsPlan}
use Rattle.core_laws.specs.places.WordIds.{levels, buckets_at}
use Rattle.core_laws.specs.places.Names.{IsName, named}
use Rattle.std.specs.Prelude.{slice_index}
use Rattle.one_store.specs.entries.Slots.{bucket_place, slot_place, block_place, number_of_buckets, number_of_blocks, slots_at, IsBucket, AreEnds}

sum_grows : (f : ℕ → ℕ) (l d : ℕ) → sum_below l f ≤ sum_below (l + d) f
sum_grows f l zero = let same : l + 0 ≡ l = omega arith in rw same (omega arith)
sum_grows f l (suc d) =
    let more : l + suc d ≡ suc (l + d) = omega arith in
    rw more (omega (arith, sum_below-suc (l + d) f, sum_grows f l d))

part_ends : (f : ℕ → ℕ) (l m i : ℕ) → l < m → i ≤ f l → sum_below l f + i ≤ sum_below m f
part_ends f l m i before inside =
    let d : ℕ = m - suc l in
    let whole : suc l + d ≡ m = omega arith in
    let reached : sum_below (suc l) f ≤ sum_below m f =
    subst (λ (n : ℕ). sum_below (suc l) f ≤ sum_below n f) whole (sum_grows f (suc l) d) in
    omega (arith, reached, sum_below-suc l f, inside)

parts : (f : ℕ → ℕ) (l m i j : ℕ) → i < f l → j < f m → sum_below l f + i ≡ sum_below m f + j
    → (l ≡ m) × (i ≡ j)
parts f l m i j of_l of_m same =
    elim (cases_order l m) [
      | inl e ↦ (let at : sum_below l f
          ≡ sum_below m f = ap (λ (n : ℕ). sum_below n f) e in (e, omega (arith, at, same)))
      | inr other ↦
          elim other [
            | inl less ↦
                (let ends = part_ends f l m (suc i) less (omega arith) in absurd
                (omega (arith, ends, same)))
            | inr more ↦
                (let ends = part_ends f m l (suc j) more (omega arith) in absurd
                (omega (arith, ends, same)))
          ]
    ]

pub name_bucket : (p : Layout) (n : Name) → IsName p n → IsBucket p n.level n.bucket
name_bucket p n i = record { level_in = i.level_in; bucket_in = i.bucket_in }

-- a bucket lies before the end of all, those of leaves first
pub bucket_in : (p : Layout) (level bucket : ℕ) → IsBucket p level bucket
    → bucket_place p level bucket < number_of_buckets p
bucket_in p level bucket i =
    omega (
      arith,
      part_ends (buckets_at p) level (levels p) (suc bucket) i.level_in
          (omega (arith, i.bucket_in)),
    )

bucket_one : (p : Layout) (m n : Name) → IsBucket p m.level m.bucket → IsBucket p n.level n.bucket
    → bucket_place p m.level m.bucket ≡ bucket_place p n.level n.bucket
    → (m.level ≡ n.level) × (m.bucket ≡ n.bucket)
bucket_one p m n i j e =
    parts (buckets_at p) m.level n.level m.bucket n.bucket i.bucket_in j.bucket_in e

-- the place of a slot in the rows of its level
pub place_in : (p : Layout) (n : Name) → IsName p n → slot_place p n < slots_at p n.level
place_in p n i = mul-add-lt n.slot (buckets_at p n.level) n.bucket p.cap i.slot_in i.bucket_in

pub place_one : (p : Layout) (m n : Name) → IsName p m → IsName p n → m.level ≡ n.level
    → slot_place p m ≡ slot_place p n → m ≡ n
place_one p m n i j l e =
    let wide : buckets_at p n.level ≡ buckets_at p m.level = ap (buckets_at p) (sym l) in
    let at : n.slot * buckets_at p n.level + n.bucket ≡ n.slot * buckets_at p m.level + n.bucket =
    ap (λ (k : ℕ). n.slot * k + n.bucket) wide in
    let same =
    same_from_place m.slot m.bucket n.slot n.bucket (buckets_at p m.level) i.bucket_in
    (omega (arith, j.bucket_in, wide)) (e ∙ at) in
    same_name m n l same.1 same.0

-- two names are one or not
pub cases_name : (m n : Name) → (m ≡ n) ⊎ (m ≢ n)
cases_name m n = elim (cases_eq m.level n.level) [
  | inr ne ↦ inr (λ q. ne (ap (λ (k : Name). k.level) q))
  | inl l ↦ elim (cases_eq m.bucket n.bucket) [
    | inr ne ↦ inr (λ q. ne (ap (λ (k : Name). k.bucket) q))
    | inl b ↦ elim (cases_eq m.slot n.slot) [
      | inr ne ↦ inr (λ q. ne (ap (λ (k : Name). k.slot) q))
      | inl s ↦ inl (same_name m n l b s)
    ]
  ]
]

pub bucket_slot : (p : Layout) (m n : Name) → IsName p m → IsName p n
    → bucket_place p m.level m.bucket ≡ bucket_place p n.level n.bucket → m.slot ≡ n.slot → m ≡ n
bucket_slot p m n i j e f =
    let at = bucket_one p m n (name_bucket p m i) (name_bucket p n j) e in
    same_name m n at.0 at.1 f

-- the place of a block of tags
pub block_in : (p : Layout) (level bucket block : ℕ) → IsBucket p level bucket → block * 16 < p.cap
    → block_place p level bucket block < number_of_blocks p
block_in p level bucket block i lt =
    let within : block < (p.cap + 15) / 16 = omega (arith, lt) in
    mul-add-lt block (number_of_buckets p) (bucket_place p level bucket) ((p.cap + 15) / 16) within
    (bucket_in p level bucket i)

-- slots whose tags stand at one place are one
pub tag_one : (p : Layout) (m n : Name) → IsBucket p m.level m.bucket → IsBucket p n.level n.bucket
    → block_place p m.level m.bucket (m.slot / 16) ≡ block_place p n.level n.bucket (n.slot / 16)
    → m.slot % 16 ≡ n.slot % 16 → m ≡ n
tag_one p m n i j e f =
    let same =
    same_from_place (m.slot / 16) (bucket_place p m.level m.bucket) (n.slot / 16)
    (bucket_place p n.level n.bucket) (number_of_buckets p)
    (bucket_in p m.level m.bucket i) (bucket_in p n.level n.bucket j) e in
    let at = bucket_one p m n i j same.1 in
    same_name m n at.0 at.1 (omega (arith, same.0, f))

pub slot_name : (p : Layout) (level bucket slot : ℕ) → IsBucket p level bucket → slot < p.cap
    → IsName p (named level bucket slot)
slot_name p level bucket slot i lt =
    record { level_in = i.level_in; bucket_in = i.bucket_in; slot_in = lt }

-- what the code finds for a bucket's place
pub bucket_value : (p : Layout) (ends : List ℕ) (level bucket at b : ℕ) → IsPlan p → AreEnds p ends
    → IsBucket p level bucket → at ≡ level → b ≡ bucket
    → slice_index ends at + b ≡ bucket_place p level bucket
bucket_value p ends level bucket at b plan e i q f =
    let top : level ≤ 11 = omega (arith, i.level_in, plan.side_high) in
    rw (q, f) (omega (arith, e.end level top))

-- what the code computes stays small
pub buckets_small : (p : Layout) (ends : List ℕ) → IsPlan p → AreEnds p ends
    → number_of_buckets p < 2 ^ 20
buckets_small p ends plan e =
    let top : levels p ≤ 11 = omega (arith, plan.side_high) in
    omega (arith, e.end (levels p) top, e.small (levels p) top)
