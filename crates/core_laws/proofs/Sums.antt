-- Sums over the names of a plan, and what each term of them is.
use Rattle.std.proofs.Common.{◌≡◌, ◌≢◌, ℕ, zero, suc, ◌+◌, ◌*◌, ◌<◌, ◌≤◌, refl, sym, ◌∙◌, ap, arith, inl, inr, Some, None, Option}
use Rattle.std.proofs.lemmas.Bool.{cases_lt}
use Rattle.vw_cell.specs.Sums.{sum_below, sum_below-same, sum_below-change, sum_below-at}
use Rattle.node_words.specs.declared.shapes.names.Name.{Name}
use Rattle.node_words.proofs.OfShapes.TreeEqual.{Name-discrete}
use Rattle.node_words.specs.Plans.{Layout}
use Rattle.core_laws.specs.places.WordIds.{levels, buckets_at}
use Rattle.core_laws.specs.places.Names.{IsName}
use Rattle.core_laws.specs.places.Names.{named}
use Rattle.core_laws.specs.Counting.{sum_names, weight, if_live}

-- the sum of one bucket, and of one level
in_bucket : Layout → (Name → ℕ) → ℕ → ℕ → ℕ
in_bucket p f l b = sum_below p.cap (λ s. f (named l b s))

in_level : Layout → (Name → ℕ) → ℕ → ℕ
in_level p f l = sum_below (buckets_at p l) (λ b. sum_below p.cap (λ s. f (named l b s)))

-- equal terms have equal sums
pub sum_names-same : (p : Layout) (f g : Name → ℕ) → ((n : Name) → IsName p n → f n ≡ g n)
    → sum_names p f ≡ sum_names p g
unfolding sum_names
sum_names-same p f g same =
    sum_below-same (levels p) _ _
    (λ l of_l. sum_below-same (buckets_at p l) _ _
    (λ b of_b. sum_below-same p.cap _ _
    (λ s of_s. same (named l b s)
    (record { level_in = of_l; bucket_in = of_b; slot_in = of_s }))))

-- a sum changes as its one changed term does
pub sum_names-change : (p : Layout) (n : Name) (f g : Name → ℕ) → IsName p n
    → ((m : Name) → IsName p m → m ≢ n → f m ≡ g m) → sum_names p g + f n ≡ sum_names p f + g n
unfolding sum_names in_bucket in_level
sum_names-change p n f g is same =
    let in_b : in_bucket p g n.level n.bucket + f n ≡ in_bucket p f n.level n.bucket + g n =
    sum_below-change p.cap n.slot (λ s. f (named n.level n.bucket s))
    (λ s. g (named n.level n.bucket s)) is.slot_in
    (λ s lt other. same (named n.level n.bucket s)
    (record { level_in = is.level_in; bucket_in = is.bucket_in; slot_in = lt })
    (λ e. other (ap (λ (m : Name). m.slot) e)))
    in
    let in_l : in_level p g n.level + in_bucket p f n.level n.bucket
    ≡ in_level p f n.level + in_bucket p g n.level n.bucket =
    sum_below-change (buckets_at p n.level) n.bucket (in_bucket p f n.level)
    (in_bucket p g n.level) is.bucket_in
    (λ b lt other. sum_below-same p.cap _ _
    (λ s of_s. same (named n.level b s)
    (record { level_in = is.level_in; bucket_in = lt; slot_in = of_s })
    (λ e. other (ap (λ (m : Name). m.bucket) e))))
    in
    let in_all : sum_names p g + in_level p f n.level ≡ sum_names p f + in_level p g n.level =
    sum_below-change (levels p) n.level (in_level p f) (in_level p g) is.level_in
    (λ l lt other. sum_below-same (buckets_at p l) _ _
    (λ b of_b. sum_below-same p.cap _ _
    (λ s of_s. same (named l b s)
    (record { level_in = lt; bucket_in = of_b; slot_in = of_s })
    (λ e. other (ap (λ (m : Name). m.level) e)))))
    in
    omega (arith, in_b, in_l, in_all)

-- a term is at most its sum
pub sum_names-at : (p : Layout) (n : Name) (f : Name → ℕ) → IsName p n → f n ≤ sum_names p f
unfolding sum_names in_bucket in_level
sum_names-at p n f is =
    let in_b : f n ≤ in_bucket p f n.level n.bucket =
    sum_below-at p.cap n.slot (λ s. f (named n.level n.bucket s)) is.slot_in in
    let in_l : in_bucket p f n.level n.bucket ≤ in_level p f n.level =
    sum_below-at (buckets_at p n.level) n.bucket (in_bucket p f n.level) is.bucket_in in
    let in_all : in_level p f n.level ≤ sum_names p f =
    sum_below-at (levels p) n.level (in_level p f) is.level_in in
    omega (arith, in_b, in_l, in_all)

-- a sum that isn't 0 has a term that isn't
pub record SomeBelow (n : ℕ) (f : ℕ → ℕ) : Type 0 where
  pub at : ℕ
  pub below : at < n
  pub some : 0 < f at

pub sum_below_some : (n : ℕ) (f : ℕ → ℕ) → 0 < sum_below n f → SomeBelow n f
unfolding sum_below
sum_below_some zero f h = absurd (omega arith)
sum_below_some (suc n) f h = elim (cases_lt 0 (f n)) [
  | inl last ↦ record { at = n; below = omega arith; some = last }
  | inr none ↦
      (let more : SomeBelow n f = sum_below_some n f (omega arith) in let lt = more.below in
      record { at = more.at; below = omega arith; some = more.some })
]

pub record SomeName (p : Layout) (f : Name → ℕ) : Type 0 where
  pub at : Name
  pub name : IsName p at
  pub some : 0 < f at

pub sum_names_some : (p : Layout) (f : Name → ℕ) → 0 < sum_names p f → SomeName p f
unfolding sum_names in_bucket in_level
sum_names_some p f h =
    let l : SomeBelow (levels p) (in_level p f) = sum_below_some (levels p) (in_level p f) h in
    let b : SomeBelow (buckets_at p l.at) (in_bucket p f l.at) =
    sum_below_some (buckets_at p l.at) (in_bucket p f l.at) l.some in
    let s : SomeBelow p.cap (λ s. f (named l.at b.at s)) =
    sum_below_some p.cap (λ s. f (named l.at b.at s)) b.some in
    record {
      at = named l.at b.at s.at;
      name = record { level_in = l.below; bucket_in = b.below; slot_in = s.below };
      some = s.some;
    }

-- 1 at one name, and 0 at every other
one_if : {m n : Name} → Dec (m ≡ n) → ℕ
one_if (yes e) = 1
one_if (no ne) = 0

pub is_name : Name → Name → ℕ
is_name m n = one_if (Name-discrete m n)

one_self : (n : Name) (d : Dec (n ≡ n)) → one_if d ≡ 1
unfolding one_if
one_self n (yes e) = refl
one_self n (no ne) = absurd (ne refl)

one_same : (m n : Name) (d : Dec (m ≡ n)) → 0 < one_if d → m ≡ n
unfolding one_if
one_same m n (yes e) h = e
one_same m n (no ne) h = absurd (omega arith)

pub is_name-self : (n : Name) → is_name n n ≡ 1
unfolding is_name
is_name-self n = one_self n (Name-discrete n n)

pub is_name-some : (m n : Name) → 0 < is_name m n → m ≡ n
unfolding is_name
is_name-some m n h = one_same m n (Name-discrete m n) h

-- what names n weighs something where that is the name
pub weight_some : (n : Name) (o : Option Name) → 0 < weight (is_name n) o → o ≡ Some n
weight_some n None h = absurd (omega arith)
weight_some n (Some m) h = ap Some (sym (is_name-some n m h))

pub weight_there : (n : Name) (o : Option Name) → o ≡ Some n → 0 < weight (is_name n) o
weight_there n o e = let one : weight (is_name n) o ≡ 1 = ap (weight (is_name n)) e
    ∙ is_name-self n in omega arith

-- a product that isn't 0 has no factor that is
pub factors : (a b : ℕ) → 0 < a * b → (0 < a) × (0 < b)
factors zero b h = absurd (omega arith)
factors (suc a) zero h = absurd (let none : suc a * 0 ≡ 0 = omega arith in omega arith)
factors (suc a) (suc b) h = (omega arith, omega arith)

-- what counts for a live entry
pub if_live_live : (b x : ℕ) → 0 < b → if_live b x ≡ x
if_live_live zero x h = absurd (omega arith)
if_live_live (suc b) x h = refl

pub if_live_some : (b x : ℕ) → 0 < if_live b x → (0 < b) × (0 < x)
if_live_some zero x h = absurd (omega arith)
if_live_some (suc b) x h = (omega arith, h)

pub if_live-same : (b b' x x' : ℕ) → b' ≡ b → (0 < b → x' ≡ x) → if_live b' x' ≡ if_live b x
if_live-same zero b' x x' e same = ap (λ (k : ℕ). if_live k x') e
if_live-same (suc b) b' x x' e same = ap (λ (k : ℕ). if_live k x') e ∙ same (omega arith)

-- a sum of zeros
pub sum_names-none : (p : Layout) (f : Name → ℕ) → ((n : Name) → IsName p n → f n ≡ 0)
    → sum_names p f ≡ 0
sum_names-none p f none = elim (cases_lt 0 (sum_names p f)) [
  | inl some ↦
      (let n : SomeName p f = sum_names_some p f some in let zero_there = none n.at n.name in
      let more = n.some in absurd (omega arith))
  | inr no_name ↦ omega arith
]

one_small : (m n : Name) (d : Dec (m ≡ n)) → one_if d ≤ 1
unfolding one_if
one_small m n (yes e) = omega arith
one_small m n (no ne) = omega arith

pub is_name-small : (m n : Name) → is_name m n ≤ 1
unfolding is_name
is_name-small m n = one_small m n (Name-discrete m n)
