-- A key is sought in its bucket alone, and books are small.
use Rattle.std.proofs.Common.{◌≡◌, ◌≢◌, ℕ, zero, suc, ◌+◌, ◌*◌, ◌<◌, ◌≤◌, sym, ◌∙◌, ap, subst, arith, Some, None, Option, List, sum_by}
use Rattle.std.proofs.lemmas.List.Sums.{sum_by-le-sum_by}
use native.Mathlib.Nat.{suc-mul}
use Rattle.vw_cell.specs.Sums.{sum_below, sum_below-le}
use Rattle.node_words.specs.declared.shapes.names.Name.{Name}
use Rattle.node_words.specs.declared.keys.Key.{Key}
use Rattle.node_words.specs.Keys.{bucket_of_key}
use Rattle.node_words.specs.Plans.{Layout}
use Rattle.core_laws.specs.places.WordIds.{levels, buckets_at, versions}
use Rattle.core_laws.specs.States.{State, IsLive}
use Rattle.core_laws.specs.places.Names.{key_child}
use Rattle.core_laws.specs.places.Names.{named}
use Rattle.core_laws.specs.Counting.{sum_names, weight, children_weight, if_live, entry_weight, booked, parented, rooted, holdings}
use Rattle.core_laws.specs.Soundness.{SoundEntries}
use Rattle.core_laws.proofs.Sums.{sum_names-at, is_name, is_name-self, is_name-small}

-- a key that no live entry of its bucket has, no live entry of its level has
pub missing_in_bucket : (p : Layout) (state : State) (level : ℕ) (key : Key) → SoundEntries p state
    → ((slot : ℕ) → slot < p.cap
    → 0 < state.book (named level (bucket_of_key key (buckets_at p level)) slot)
    → state.key (named level (bucket_of_key key (buckets_at p level)) slot) ≢ key)
    → (m : Name) → IsLive p state m → m.level ≡ level → state.key m ≢ key
missing_in_bucket p state level key s missing m live same_level same_key =
    let bucket : m.bucket ≡ bucket_of_key key (buckets_at p level) = s.placed m live
    ∙ ap (λ (k : Key). bucket_of_key k (buckets_at p m.level)) same_key
    ∙ ap (λ (l : ℕ). bucket_of_key key (buckets_at p l)) same_level in
    let is : named level (bucket_of_key key (buckets_at p level)) m.slot ≡ m =
    (λ i. record { level = same_level_back i; bucket = bucket_back bucket i; slot = m.slot }) in
    missing m.slot live.name.slot_in (subst (λ (n : Name). 0 < state.book n) (sym is) live.book)
    (ap state.key is ∙ same_key)
  where
    same_level_back : level ≡ m.level
    same_level_back = sym same_level

    bucket_back : m.bucket ≡ bucket_of_key key (buckets_at p level)
        → bucket_of_key key (buckets_at p level) ≡ m.bucket
    bucket_back e = sym e

weight-small : (n : Name) (o : Option Name) → weight (is_name n) o ≤ 1
weight-small n None = omega arith
weight-small n (Some m) = is_name-small n m

if_live-small : (book x most : ℕ) → x ≤ most → if_live book x ≤ most
if_live-small zero x most h = omega arith
if_live-small (suc book) x most h = h

own_book : (p : Layout) (state : State) (n : Name) → IsLive p state n
    → state.book n * is_name n n ≤ booked p (is_name n) state
unfolding booked
own_book p state n live = sum_names-at p n (λ m. state.book m * is_name n m) live.name

children-small : (n : Name) (key : Key) → children_weight (is_name n) key ≤ 8
unfolding children_weight
children-small n key = let all =
    sum_below-le 8 1 (λ k. weight (is_name n) (key_child key k))
    (λ k _. weight-small n (key_child key k)) in omega arith

less_times : (a b x : ℕ) → a ≤ b → a * x ≤ b * x
less_times zero b x h = omega arith
less_times (suc a) zero x h = absurd (omega arith)
less_times (suc a) (suc b) x h =
    (let more = less_times a b x (omega arith) in let l = suc-mul a x in let r = suc-mul b x in
    omega arith)

parented-small : (p : Layout) (state : State) (n : Name) (buckets : ℕ)
    → ((level : ℕ) → level < levels p → buckets_at p level ≤ buckets)
    → parented p (is_name n) state ≤ levels p * (buckets * (p.cap * 8))
unfolding parented sum_names
parented-small p state n buckets few =
    sum_below-le (levels p) (buckets * (p.cap * 8)) _ (λ level of_level. (
    let each =
    sum_below-le (buckets_at p level) (p.cap * 8)
    (λ b. sum_below p.cap (λ i. entry_weight (is_name n) state (named level b i)))
    (λ b _. sum_below-le p.cap 8 _
    (λ i _. if_live-small (state.book (named level b i)) _ 8
    (children-small n _))) in
    let wide = less_times (buckets_at p level) buckets (p.cap * 8) (few level of_level) in
    omega arith))

rooted-small : (state : State) (n : Name) → rooted (is_name n) state ≤ versions * 1
unfolding rooted
rooted-small state n =
    sum_below-le versions 1 (λ v. weight (is_name n) (state.root v))
    (λ v _. weight-small n (state.root v))

holdings-small : (n : Name) (held : List (List Name))
    → holdings (is_name n) held ≤ holdings (λ _. 1) held
unfolding holdings
holdings-small n held =
    sum_by-le-sum_by (λ (names : List Name). sum_by (is_name n) names)
    (λ (names : List Name). sum_by (λ _. 1) names) held
    (λ names. sum_by-le-sum_by (is_name n) (λ _. 1) names (λ m. is_name-small n m))

-- a name has at most eight child places in each entry, one root place in each version and so many
-- shares as are held
pub book_small : (p : Layout) (state : State) (n : Name) (buckets : ℕ) → SoundEntries p state
    → ((level : ℕ) → level < levels p → buckets_at p level ≤ buckets) → IsLive p state n
    → state.book n ≤ levels p * (buckets * (p.cap * 8)) + versions + holdings (λ _. 1) state.held
book_small p state n buckets s few live =
    let own : state.book n * is_name n n ≤ booked p (is_name n) state = own_book p state n live in
    let self : state.book n * is_name n n ≡ state.book n * 1 =
    ap (λ (k : ℕ). state.book n * k) (is_name-self n) in
    let count = s.counted (is_name n) in
    let parents = parented-small p state n buckets few in
    let roots = rooted-small state n in
    let shares = holdings-small n state.held in
    omega arith
