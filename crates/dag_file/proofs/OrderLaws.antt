-- Searches in strictly sorted lists of words.
use Rattle.std.proofs.Common.{◌≡◌, ℕ, zero, suc, ◌+◌, ◌<◌, ◌≤◌, inl, inr, List, [], ◌∷◌, length, refl, sym, subst, ap, ◌∙◌, arith}
use Rattle.std.specs.Prelude.{slice_index, slice_index_or, Ok, Err}
use Rattle.std.specs.List.{Contains}
use Rattle.std.specs.List.Sorted.{IsStrictlySortedBy, IsBinarySearchResult, IsNonDecreasingBy}
use Rattle.std.specs.Cmp.{IsTotalOrder}
use Rattle.std.specs.Cmp.Lexicographic.{slice_cmp, on_texts, texts_ties, same_text}
use Rattle.std.specs.declared.cmp.Ordering.{Ordering}
use Rattle.std.specs.declared.cmp.Ordering.TheVariants.{Less, Equal, Greater}
use Rattle.std.specs.Ordering.{nat_cmp, ordering_index, ordering_reverse, ordering_then, MatchOrdering, is_eq}
use Rattle.std.specs.Prelude.{Bool, true, false, cond}
use Rattle.std.specs.List.{dedup, dedup_from}
use Rattle.std.specs.List.Retain.{IsFiltered, DiffersFromLast}
use Rattle.std.specs.List.Sorted.{IsPermutation}
use Rattle.std.proofs.lemmas.List.Filters.{dedup_is}
use Rattle.std.proofs.lemmas.List.Sorted.{length_permutation}
use Rattle.std.proofs.lemmas.Cmp.{ranked}
use Rattle.std.proofs.lemmas.Bool.{cases_lt}
use Rattle.std.proofs.lemmas.List.Elements.{All-from_recursion}

abbrev order : List ℕ → List ℕ → Ordering
order a b = slice_cmp nat_cmp a b

total : IsTotalOrder order
total = on_texts (λ x. x)

at_most_2 : (r : Ordering) → ordering_index r ≤ 2
at_most_2 Less = omega arith
at_most_2 Equal = omega arith
at_most_2 Greater = omega arith

-- a lesser list compares no higher
less_step : (a b x : List ℕ) → order a b ≡ Less
    → ordering_index (order a x) ≤ ordering_index (order b x)
less_step a b x l = by_answer (order b x) refl where
  is_less : (r : Ordering) → order a x ≡ Less → ordering_index (order a x) ≤ ordering_index r
  is_less r e = let z = ap ordering_index e in omega (arith, z)

  by_answer : (r : Ordering) → order b x ≡ r → ordering_index (order a x) ≤ ordering_index r
  by_answer Less e = is_less Less (total.trans a b x l e)
  by_answer Equal e = is_less Equal
      (total.antisymm a x
      ∙ ap ordering_reverse
      (sym (total.congr b x a e) ∙ total.antisymm b a ∙ ap ordering_reverse l))
  by_answer Greater e = at_most_2 (order a x)

pair : (xs : List (List ℕ)) (i j : ℕ) (d : List ℕ) → IsStrictlySortedBy order xs → i < j
    → j < length xs → order (slice_index_or xs i d) (slice_index_or xs j d) ≡ Less
unfolding IsStrictlySortedBy
pair [] i j d h l m = absurd (omega (arith, m))
pair (x ∷ xs) i zero d h l m = absurd (omega (arith, l))
pair (x ∷ xs) zero (suc j) d h l m =
    All-from_recursion (λ y. order x y ≡ Less) xs h.0 j d (omega (arith, m))
pair (x ∷ xs) (suc i) (suc j) d h l m = pair xs i j d h.1 (omega (arith, l)) (omega (arith, m))

answers_rise : (xs : List (List ℕ)) (x : List ℕ) → IsStrictlySortedBy order xs
    → IsNonDecreasingBy (λ y. ordering_index (order y x)) xs
answers_rise xs x h = λ i j d l m. elim (cases_lt i j) [
  | inl less ↦ less_step (slice_index_or xs i d) (slice_index_or xs j d) x (pair xs i j d h less m)
  | inr more ↦ let e : i
      ≡ j = omega (arith, l, more) in let s = ap
      (λ (k : ℕ). ordering_index (order (slice_index_or xs k d) x)) e in omega (arith, s)
]

not_less : (x : List ℕ) → order x x ≡ Less → ⊥
not_less x e =
    let z = ap ordering_index (sym e ∙ total.antisymm x x ∙ ap ordering_reverse e) in absurd
    (omega (arith, z))

not_greater : (x : List ℕ) → order x x ≡ Greater → ⊥
not_greater x e =
    let z = ap ordering_index (sym e ∙ total.antisymm x x ∙ ap ordering_reverse e) in absurd
    (omega (arith, z))

-- what stands in the list is found
pub words_never_missed : (xs : List (List ℕ)) (x : List ℕ) (i : ℕ) → IsStrictlySortedBy order xs
    → IsBinarySearchResult (λ y. order y x) xs (Err i) → Contains xs x → ⊥
words_never_missed xs x i up h (k, lt, is) =
    let parts = h (answers_rise xs x up) in elim (cases_lt k i) [
      | inl less ↦ not_less x
          (subst (λ (y : List ℕ). order y x ≡ Less) is (parts.0 k x (omega arith) less))
      | inr more ↦ not_greater x (subst (λ (y : List ℕ). order y x ≡ Greater) is (parts.1 k x more lt))
    ]

pub words_found : (xs : List (List ℕ)) (x d : List ℕ) (i : ℕ)
    → IsBinarySearchResult (λ y. order y x) xs (Ok i) → slice_index_or xs i d ≡ x
words_found xs x d i h =
    same_text (slice_index_or xs i d) x
    (sym (texts_ties (slice_index_or xs i d) x ∙ ap is_eq (h d)))

-- two places of one list are one
pub one_row_place : (i j : ℕ) (xs : List (List ℕ)) → IsStrictlySortedBy order xs → i < length xs
    → j < length xs → slice_index_or xs i [] ≡ slice_index_or xs j [] → i ≡ j
one_row_place i j xs up li lj e = elim (cases_lt i j) [
  | inl less ↦ absurd
      (not_less (slice_index_or xs j [])
      (subst (λ (y : List ℕ). order y (slice_index_or xs j []) ≡ Less) e
      (pair xs i j [] up less lj)))
  | inr more ↦ elim (cases_lt j i) [
    | inl less ↦ absurd
        (not_less (slice_index_or xs i [])
        (subst (λ (y : List ℕ). order y (slice_index_or xs i []) ≡ Less) (sym e)
        (pair xs j i [] up less li)))
    | inr same ↦ omega (arith, more, same)
  ]
]

pub rows_rise : (xs : List (List ℕ)) (i : ℕ) → IsStrictlySortedBy order xs → i + 1 < length xs
    → order (slice_index_or xs i []) (slice_index_or xs (i + 1) []) ≡ Less
rows_rise xs i up l = pair xs i (i + 1) [] up (omega arith) l

-- of two lists of one length the lesser one is less in the first place in which they differ
pub record FirstDifference (a b : List ℕ) : Type 0 where
  pub k : ℕ
  pub inside : k < length a
  pub same : (j : ℕ) → j < k → slice_index a j ≡ slice_index b j
  pub less : slice_index a k < slice_index b k

further_on : (x y : ℕ) (xs ys : List ℕ) → x ≡ y → FirstDifference xs ys
    → FirstDifference (x ∷ xs) (y ∷ ys)
further_on x y xs ys e d =
    record {
      k = suc d.k;
      inside =
          (let l = d.inside in omega (arith, l));
      same = each;
      less = d.less;
    } where
      each : (j : ℕ) → j < suc d.k → slice_index (x ∷ xs) j ≡ slice_index (y ∷ ys) j
      each zero l = e
      each (suc j) l = d.same j (omega (arith, l))

pub first_difference : (a b : List ℕ) → length a ≡ length b → order a b ≡ Less → FirstDifference a b
first_difference [] [] e l = absurd (let z = ap ordering_index l in omega (arith, z))
first_difference [] (y ∷ ys) e l = absurd (omega (arith, e))
first_difference (x ∷ xs) [] e l = absurd (omega (arith, e))
first_difference (x ∷ xs) (y ∷ ys) e l =
    by_rank (λ h. first_difference xs ys (omega (arith, e)) h) (nat_cmp x y)
    (ranked x y (nat_cmp x y) refl) l where
      by_rank : (order xs ys ≡ Less → FirstDifference xs ys) → (r : Ordering)
          → MatchOrdering r (x < y) (x ≡ y) (y < x) → ordering_then r (order xs ys) ≡ Less
          → FirstDifference (x ∷ xs) (y ∷ ys)
      by_rank rest Less lt h =
          record { k = 0; inside = omega arith; same = λ j low. absurd (omega (arith, low)); less = lt }
      by_rank rest Equal eq h = further_on x y xs ys eq (rest h)
      by_rank rest Greater gt h = absurd (let z = ap ordering_index h in omega (arith, z))

-- taking repeats out makes no list longer
shorter_from : {X : Type 0} (same : X → X → Bool) (k : X) (xs : List X)
    → length (dedup_from same k xs) ≤ suc (length xs)
shorter_from same k [] = omega arith
shorter_from {X} same k (x ∷ xs) =
    by_test (same x k) (shorter_from same k xs) (shorter_from same x xs) where
      by_test : (b : Bool) → length (dedup_from same k xs) ≤ suc (length xs)
          → length (dedup_from same x xs) ≤ suc (length xs)
          → length (cond b (dedup_from same k xs) (k ∷ dedup_from same x xs)) ≤ suc (suc (length xs))
      by_test true h g = omega (arith, h)
      by_test false h g = omega (arith, g)

no_longer : {X : Type 0} (same : X → X → Bool) (xs : List X) → length (dedup same xs) ≤ length xs
no_longer same [] = omega arith
no_longer same (x ∷ xs) = let h = shorter_from same x xs in omega (arith, h)

pub filtered_shorter : {X : Type 0} (same : X → X → Bool) (xs ys zs : List X)
    → IsFiltered (DiffersFromLast same) [] ys zs → IsPermutation xs ys → length zs ≤ length xs
filtered_shorter {X} same xs ys zs h moved =
    let n = no_longer same ys in
    let l = ap (λ (ws : List X). length ws) (dedup_is same ys zs h) in
    let m = length_permutation xs ys moved in
    omega (arith, n, l, m)
