-- The law of live numbers: where nobody holds a share, the live entries of a level are as many as
-- the different blocks with a set cell.
use Rattle.std.proofs.Common.{◌≡◌, ◌≢◌, ℕ, zero, suc, ◌+◌, ◌<◌, ◌≤◌, refl, sym, ap, subst, arith, inl, inr, Some, List, [], ◌∷◌, ◌++◌, length, length-append}
use Rattle.std.specs.Prelude.{All}
use Rattle.std.specs.List.{AllPairs, Contains}
use Rattle.std.proofs.lemmas.Bool.{cases_eq}
use Rattle.std.proofs.lemmas.List.Elements.{All-nil, All-cons, All-head, All-tail, All-append, Contains-append_left, Contains-append_right}
use Rattle.std.proofs.lemmas.List.Kept.{AllPairs-cons}
use Rattle.std.proofs.lemmas.Option.{same_Some}
use Rattle.vw_cell.specs.Sums.{sum_below, sum_below-suc, sum_below-zero}
use Rattle.node_words.specs.declared.shapes.names.Name.{Name}
use Rattle.node_words.specs.shapes.Shape.{Shape, Clear, IsCanonical}
use Rattle.node_words.specs.shapes.Tree.{shape_of}
use Rattle.node_words.specs.Plans.{Layout}
use Rattle.core_laws.specs.places.WordIds.{levels, buckets_at}
use Rattle.core_laws.specs.Worlds.{World}
use Rattle.core_laws.specs.States.{State, shape_in, tree_at}
use Rattle.core_laws.specs.places.Names.{named}
use Rattle.core_laws.specs.Counting.{if_live}
use Rattle.core_laws.specs.Soundness.{SoundEntries}
use Rattle.core_laws.specs.Blocks.{RootsShow, ShowsSomeBlock, Lists, HasBlocks, live_in, live_number, IsIdle}
use Rattle.core_laws.proofs.LiveShapes.{LivesAt, one_lives, shape_once, canonical_at, not_clear_at}
use Rattle.core_laws.proofs.Roots.{EntryFor, entry_for, entry_shown, roots_live, root_shows}

-- s before a list, where the book isn't 0
put : ℕ → Shape → List Shape → List Shape
put zero s more = more
put (suc book) s more = s ∷ more

put-number : (book : ℕ) (s : Shape) (more : List Shape)
    → length (put book s more) ≡ length more + if_live book 1
unfolding put
put-number zero s more = omega arith
put-number (suc book) s more = omega arith

put-all : (P : Shape → Type 0) (book : ℕ) (s : Shape) (more : List Shape) → (0 < book → P s)
    → All P more → All P (put book s more)
unfolding put
put-all P zero s more here all = all
put-all P (suc book) s more here all = All-cons P s more (here (omega arith)) all

put-pairs : (book : ℕ) (s : Shape) (more : List Shape) → (0 < book → All (λ t. s ≢ t) more)
    → AllPairs (λ s t. s ≢ t) more → AllPairs (λ s t. s ≢ t) (put book s more)
unfolding put
put-pairs zero s more here pairs = pairs
put-pairs (suc book) s more here pairs =
    AllPairs-cons (λ s t. s ≢ t) s more (here (omega arith)) pairs

put-here : (book : ℕ) (s : Shape) (more : List Shape) → 0 < book → Contains (put book s more) s
unfolding put
put-here zero s more some = absurd (omega arith)
put-here (suc book) s more some = (0, omega arith, refl)

put-there : (book : ℕ) (s t : Shape) (more : List Shape) → Contains more t
    → Contains (put book s more) t
unfolding put
put-there zero s t more has = has
put-there (suc book) s t more has = (suc has.0, (let lt = has.1 in omega arith), has.2)

-- the shapes of the live entries of some slots of a bucket, and of some buckets of a level
slot_shapes : State → ℕ → ℕ → ℕ → List Shape
slot_shapes c level bucket zero = []
slot_shapes c level bucket (suc slot) =
    put (c.book (named level bucket slot)) (shape_in c (named level bucket slot))
    (slot_shapes c level bucket slot)

bucket_shapes : ℕ → State → ℕ → ℕ → List Shape
bucket_shapes cap c level zero = []
bucket_shapes cap c level (suc bucket) =
    slot_shapes c level bucket cap ++ bucket_shapes cap c level bucket

slot_number : (state : State) (level bucket slots : ℕ)
    → length (slot_shapes state level bucket slots)
    ≡ sum_below slots (λ slot. if_live (state.book (named level bucket slot)) 1)
unfolding slot_shapes
slot_number state level bucket zero = sym (sum_below-zero _)
slot_number state level bucket (suc slot) =
    let here =
    put-number (state.book (named level bucket slot))
    (shape_in state (named level bucket slot)) (slot_shapes state level bucket slot) in
    let more = slot_number state level bucket slot in
    let all = sum_below-suc slot (λ slot. if_live (state.book (named level bucket slot)) 1) in
    omega (arith, here, more, all)

bucket_number : (p : Layout) (state : State) (level buckets : ℕ)
    → length (bucket_shapes p.cap state level buckets) ≡ sum_below buckets (live_in p state level)
unfolding bucket_shapes
bucket_number p state level zero = sym (sum_below-zero _)
bucket_number p state level (suc bucket) =
    let here = slot_number state level bucket p.cap in
    let more = bucket_number p state level bucket in
    let both =
    length-append (slot_shapes state level bucket p.cap)
    (bucket_shapes p.cap state level bucket) in
    let all = sum_below-suc bucket (live_in p state level) in
    omega (arith, here, more, both, all)

slot_all : (P : Shape → Type 0) (state : State) (level bucket slots : ℕ)
    → ((slot : ℕ) → slot < slots → 0 < state.book (named level bucket slot)
    → P (shape_in state (named level bucket slot))) → All P (slot_shapes state level bucket slots)
unfolding slot_shapes
slot_all P state level bucket zero each = All-nil P
slot_all P state level bucket (suc slot) each =
    put-all P _ _ _ (each slot (omega arith))
    (slot_all P state level bucket slot (λ i lt. each i (omega arith)))

bucket_all : (P : Shape → Type 0) (cap : ℕ) (state : State) (level buckets : ℕ)
    → ((bucket slot : ℕ) → bucket < buckets → slot < cap → 0 < state.book (named level bucket slot)
    → P (shape_in state (named level bucket slot))) → All P (bucket_shapes cap state level buckets)
unfolding bucket_shapes
bucket_all P cap state level zero each = All-nil P
bucket_all P cap state level (suc bucket) each =
    All-append P _ _
    (slot_all P state level bucket cap (λ slot lt. each bucket slot (omega arith) lt))
    (bucket_all P cap state level bucket (λ b slot lt. each b slot (omega arith)))

slot_has : (state : State) (level bucket slots slot : ℕ) → slot < slots
    → 0 < state.book (named level bucket slot)
    → Contains (slot_shapes state level bucket slots) (shape_in state (named level bucket slot))
unfolding slot_shapes
slot_has state level bucket zero slot lt live = absurd (omega arith)
slot_has state level bucket (suc last) slot lt live = elim (cases_eq slot last) [
  | inl same ↦
      (let P : ℕ
      → Type 0 =
      λ i. Contains
      (put (state.book (named level bucket last))
      (shape_in state (named level bucket last))
      (slot_shapes state level bucket last))
      (shape_in state (named level bucket i)) in
      subst P (sym same)
      (put-here _ _ _ (subst (λ (i : ℕ). 0 < state.book (named level bucket i)) same live)))
  | inr other ↦ put-there _ _ _ _ (slot_has state level bucket last slot (omega arith) live)
]

bucket_has : (cap : ℕ) (state : State) (level buckets bucket slot : ℕ) → bucket < buckets
    → slot < cap → 0 < state.book (named level bucket slot)
    → Contains (bucket_shapes cap state level buckets) (shape_in state (named level bucket slot))
unfolding bucket_shapes
bucket_has cap state level zero bucket slot lt low live = absurd (omega arith)
bucket_has cap state level (suc last) bucket slot lt low live = elim (cases_eq bucket last) [
  | inl same ↦
      (let P : ℕ
      → Type 0 =
      λ b. Contains
      (slot_shapes state level last cap ++ bucket_shapes cap state level last)
      (shape_in state (named level b slot)) in
      subst P (sym same)
      (Contains-append_left (slot_shapes state level last cap)
      (bucket_shapes cap state level last) _
      (slot_has state level last cap slot low
      (subst (λ (b : ℕ). 0 < state.book (named level b slot)) same live))))
  | inr other ↦
      Contains-append_right (slot_shapes state level last cap)
      (bucket_shapes cap state level last) _
      (bucket_has cap state level last bucket slot (omega arith) low live)
]

AllPairs-append : {X : Type 0} (R : X → X → Type 0) (xs ys : List X) → AllPairs R xs
    → AllPairs R ys → All (λ x. All (R x) ys) xs → AllPairs R (xs ++ ys)
AllPairs-append R [] ys of_x of_y across = of_y
AllPairs-append R (x ∷ xs) ys of_x of_y across =
    AllPairs-cons R x (xs ++ ys)
    (All-append (R x) xs ys (λ k d lt. of_x 0 (suc k) d (omega arith) (omega arith))
    (All-head (λ w. All (R w) ys) x xs across))
    (AllPairs-append R xs ys
    (λ i j d low high. of_x (suc i) (suc j) d (omega arith) (omega arith)) of_y
    (All-tail (λ w. All (R w) ys) x xs across))

module _ (p : Layout) (state : State) (level : ℕ) (s : SoundEntries p state)
    (in_plan : level < levels p) where
  lives : (bucket slot : ℕ) → bucket < buckets_at p level → slot < p.cap
      → 0 < state.book (named level bucket slot) → LivesAt p state level (named level bucket slot)
  lives bucket slot b lt live =
      record {
        live =
            record {
              name = record { level_in = in_plan; bucket_in = b; slot_in = lt };
              book = live;
            };
        same_level = refl;
      }

  same_place : (m n : Name) → LivesAt p state level m → LivesAt p state level n
      → shape_of (tree_at state.key level (Some m)) ≡ shape_of (tree_at state.key level (Some n))
      → m ≡ n
  same_place m n of_m of_n same =
      same_Some m n
      (shape_once p state s level (Some m) (Some n) (one_lives p state level m of_m)
      (one_lives p state level n of_n) same)

  slots_apart : (bucket slots : ℕ) → bucket < buckets_at p level → slots ≤ p.cap
      → AllPairs (λ x y. x ≢ y) (slot_shapes state level bucket slots)
  unfolding slot_shapes
  slots_apart bucket zero b le = λ i j d low high. absurd (omega arith)
  slots_apart bucket (suc slot) b le =
      put-pairs _ _ _
      (λ here. slot_all (λ t. shape_in state (named level bucket slot) ≢ t) state level bucket slot
      (λ i lt there same. (
      let names =
      same_place (named level bucket slot) (named level bucket i)
      (lives bucket slot b (omega arith) here)
      (lives bucket i b (omega arith) there) same in
      let slots = ap (λ (n : Name). n.slot) names in omega arith)))
      (slots_apart bucket slot b (omega arith))

  buckets_apart : (buckets : ℕ) → buckets ≤ buckets_at p level
      → AllPairs (λ x y. x ≢ y) (bucket_shapes p.cap state level buckets)
  unfolding bucket_shapes
  buckets_apart zero le = λ i j d low high. absurd (omega arith)
  buckets_apart (suc bucket) le =
      AllPairs-append (λ x y. x ≢ y) (slot_shapes state level bucket p.cap)
      (bucket_shapes p.cap state level bucket)
      (slots_apart bucket p.cap (omega arith) (omega arith)) (buckets_apart bucket (omega arith))
      (slot_all
      (λ t. All (λ u. t ≢ u) (bucket_shapes p.cap state level bucket)) state level bucket p.cap
      (λ slot lt here.
      bucket_all (λ u. shape_in state (named level bucket slot) ≢ u) p.cap state level bucket
      (λ b i less low there same. (
      let names =
      same_place (named level bucket slot) (named level b i)
      (lives bucket slot (omega arith) lt here) (lives b i (omega arith) low there) same in
      let buckets = ap (λ (n : Name). n.bucket) names in omega arith))))

-- a live entry's shape is listed
listed : (p : Layout) (state : State) (level : ℕ) (n : Name) → LivesAt p state level n
    → Contains (bucket_shapes p.cap state level (buckets_at p level))
    (shape_of (tree_at state.key level (Some n)))
listed p state level n l =
    let P : ℕ
    → Type 0 =
    λ k. Contains (bucket_shapes p.cap state k (buckets_at p k))
    (shape_of (tree_at state.key k (Some n))) in
    subst P l.same_level
    (bucket_has p.cap state n.level
    (buckets_at p n.level) n.bucket n.slot l.live.name.bucket_in l.live.name.slot_in l.live.book)

pub live_numbers : (p : Layout) (cells : ℕ → World) (state : State) (level : ℕ)
    → SoundEntries p state → RootsShow p cells state → IsIdle state → level < levels p
    → HasBlocks p cells state level (live_number p state level)
live_numbers p cells state level s roots idle in_plan = record {
  shapes = bucket_shapes p.cap state level (buckets_at p level);
  as_many = bucket_number p state level (buckets_at p level);
  canonical =
      bucket_all (λ t. IsCanonical level t × (t ≢ Clear)) p.cap state level (buckets_at p level)
      (λ b i lt low live. (
        canonical_at p state s level _
            (one_lives p state level _ (lives p state level s in_plan b i lt low live)),
        not_clear_at state.key level _,
      ));
  different = buckets_apart p state level s in_plan (buckets_at p level) (omega arith);
  shown = bucket_all (ShowsSomeBlock p cells state level) p.cap state level (buckets_at p level)
      (λ b i lt low live. entry_shown p cells state (named level b i) s roots idle
      (lives p state level s in_plan b i lt low live).live);
  complete = λ v b site some. (
      let e : EntryFor p state s (cells v) b =
      entry_for p state s (cells v) b (state.root v) (roots_live p cells state v s roots)
      (root_shows p cells state v roots (state.root v) refl site.rooted) site.aligned some in
      let P : ℕ → Type 0 = λ k. Lists (bucket_shapes p.cap state k (buckets_at p k)) b (cells v) in
      subst P site.same_level
      (record {
        shape = shape_of (tree_at state.key b.level (Some e.name));
        listed = listed p state b.level e.name e.live;
        shows = e.shows;
      }));
}
