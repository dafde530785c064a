-- What a search in rising keys gives; and contents that are read one after the other.
use Rattle.std.proofs.Common.{◌≡◌, ℕ, zero, suc, ◌+◌, ◌-◌, ◌<◌, ◌≤◌, inl, inr, List, length, set, Option, Some, sym, subst, ap, ◌∙◌, arith}
use Rattle.std.specs.Prelude.{slice_index, Ok, Err}
use Rattle.std.specs.List.{Contains}
use Rattle.std.specs.List.Sorted.{IsStrictlyIncreasing, IsBinarySearchResult}
use Rattle.std.specs.Ordering.{nat_cmp}
use Rattle.std.proofs.lemmas.List.Sorted.{searched}
use Rattle.std.proofs.lemmas.List.{get_or-set_same, get_or-set_other, get_or_default}
use Rattle.std.proofs.lemmas.Bool.{cases_lt}
use Rattle.node_words.specs.Held.{StoreState}
use Rattle.node_words.specs.descent.Roots.{IsOctantOf}
use Rattle.node_words.specs.declared.shapes.names.Name.{Name}
use Rattle.dag_file.specs.Trees.{named_index}
use Rattle.dag_file.specs.Writes.{IsWordOfName, IsOctantWord, AreOctantWords, HasByteSlot}

-- of rising numbers a later one is more
rising : (d i : ℕ) (xs : List ℕ) → IsStrictlyIncreasing xs → i + suc d < length xs
    → slice_index xs i < slice_index xs (i + suc d)
rising zero i xs up l = up i l
rising (suc d) i xs up l =
    let here = rising d i xs up (omega (arith, l)) in let next = up (i + suc d)
    (omega (arith, l)) in let e : slice_index xs (i + suc d + 1) ≡ slice_index xs
    (i + suc (suc d)) = ap (λ (k : ℕ). slice_index xs k) (omega arith) in omega
    (arith, here, next, e)

rises_on : (i j : ℕ) (xs : List ℕ) → IsStrictlyIncreasing xs → i < j → j < length xs
    → slice_index xs i < slice_index xs j
rises_on i j xs up l m =
    let e : i + suc (j - suc i) ≡ j = omega (arith, l) in subst
    (λ (k : ℕ). slice_index xs i < slice_index xs k) e
    (rising (j - suc i) i xs up (omega (arith, e, m)))

never_falls : (i j : ℕ) (xs : List ℕ) → IsStrictlyIncreasing xs → i ≤ j → j < length xs
    → slice_index xs i ≤ slice_index xs j
never_falls i j xs up l m = elim (cases_lt i j) [
  | inl less ↦ let h = rises_on i j xs up less m in omega (arith, h)
  | inr more ↦ let e : i
      ≡ j = omega (arith, l, more) in let s = ap (λ (k : ℕ). slice_index xs k) e in omega (arith, s)
]

-- two places of one number are one
pub one_place : (i j : ℕ) (xs : List ℕ) → IsStrictlyIncreasing xs → i < length xs → j < length xs
    → slice_index xs i ≡ slice_index xs j → i ≡ j
one_place i j xs up li lj e = elim (cases_lt i j) [
  | inl less ↦ let h = rises_on i j xs up less lj in absurd (omega (arith, h, e))
  | inr more ↦ elim (cases_lt j i) [
    | inl less ↦ let h = rises_on j i xs up less li in absurd (omega (arith, h, e))
    | inr same ↦ omega (arith, more, same)
  ]
]

-- what was searched was found there, or is nowhere
pub search_found : (xs : List ℕ) (x i : ℕ) → IsStrictlyIncreasing xs
    → IsBinarySearchResult (λ y. nat_cmp y x) xs (Ok i) → (i < length xs) × (slice_index xs i ≡ x)
search_found xs x i up h = searched xs x (Ok i) h (λ a b l m. never_falls a b xs up l m)

pub search_missed : (xs : List ℕ) (x i j : ℕ) → IsStrictlyIncreasing xs
    → IsBinarySearchResult (λ y. nat_cmp y x) xs (Err i) → j < length xs → slice_index xs j ≡ x → ⊥
search_missed xs x i j up h l e =
    let parts = searched xs x (Err i) h (λ a b le m. never_falls a b xs up le m) in elim
    (cases_lt j i) [
      | inl less ↦ let lower = parts.1 j less in absurd (omega (arith, lower, e))
      | inr more ↦ let higher = parts.2 j more l in absurd (omega (arith, higher, e))
    ]

pub word_found : (keys indices : List ℕ) (n : Name) (i : ℕ) → IsStrictlyIncreasing keys
    → IsBinarySearchResult (λ y. nat_cmp y (named_index n)) keys (Ok i)
    → IsWordOfName keys indices (Some n) (slice_index indices i + 1)
word_found keys indices n i up h =
    λ j l e. let at = search_found keys (named_index n) i up h in ap
    (λ (k : ℕ). slice_index indices k + 1) (one_place i j keys up at.0 l (at.1 ∙ sym e))

pub word_missed : (keys indices : List ℕ) (n : Name) (i : ℕ) → IsStrictlyIncreasing keys
    → IsBinarySearchResult (λ y. nat_cmp y (named_index n)) keys (Err i)
    → IsWordOfName keys indices (Some n) 0
word_missed keys indices n i up h =
    λ j l e. absurd (search_missed keys (named_index n) i j up h l e)

-- the same of a name that may be none, by its key
pub named_found : (keys indices : List ℕ) (o : Option Name) (n : Name) (key i : ℕ) → o ≡ Some n
    → key ≡ named_index n → IsStrictlyIncreasing keys
    → IsBinarySearchResult (λ y. nat_cmp y key) keys (Ok i)
    → IsWordOfName keys indices o (slice_index indices i + 1)
named_found keys indices o n key i some is up h =
    subst (λ (p : Option Name). IsWordOfName keys indices p (slice_index indices i + 1)) (sym some)
    (word_found keys indices n i up
    (subst (λ (k : ℕ). IsBinarySearchResult (λ y. nat_cmp y k) keys (Ok i)) is h))

pub named_missed : (keys indices : List ℕ) (o : Option Name) (n : Name) (key i : ℕ) → o ≡ Some n
    → key ≡ named_index n → IsStrictlyIncreasing keys
    → IsBinarySearchResult (λ y. nat_cmp y key) keys (Err i) → IsWordOfName keys indices o 0
named_missed keys indices o n key i some is up h =
    subst (λ (p : Option Name). IsWordOfName keys indices p 0) (sym some)
    (word_missed keys indices n i up
    (subst (λ (k : ℕ). IsBinarySearchResult (λ y. nat_cmp y k) keys (Err i)) is h))

pub never_missed : (xs : List ℕ) (x i : ℕ) → IsStrictlyIncreasing xs
    → IsBinarySearchResult (λ y. nat_cmp y x) xs (Err i) → Contains xs x → ⊥
never_missed xs x i up h (j, lt, is) =
    search_missed xs x i j up h lt (get_or_default xs j 0 x lt ∙ is)

-- the word of one octant more
pub words_step : (a b : StoreState) (level : ℕ) (node : Name) (keys indices : List ℕ) (k i : ℕ)
    (child : Option Name) (word : ℕ) (words : List ℕ) → b ≡ a
    → AreOctantWords a.held level node keys indices k words
    → IsOctantOf b.held level (Some node) k child → HasByteSlot child
    → IsWordOfName keys indices child word → i ≡ k → k < length words
    → AreOctantWords a.held level node keys indices (k + 1) (set words i word)
words_step a b level node keys indices k i child word words same ws oct slot is at room =
    subst (λ (m : ℕ). AreOctantWords a.held level node keys indices (k + 1) (set words m word))
    (sym at) (λ u l. elim (cases_lt u k) [
      | inl less ↦ subst (λ (w : ℕ). IsOctantWord a.held level node keys indices u w)
          (sym (get_or-set_other words k u word 0 (λ e. absurd (omega (arith, e, less))))) (ws u less)
      | inr more ↦ last u (omega (arith, l, more))
    ]) where
      here : IsOctantWord a.held level node keys indices k word
      here = record {
        child = child;
        octant = subst
            (λ (s : StoreState). IsOctantOf s.held level
            (Some node) k child) same oct;
        slot = slot;
        word_is = is;
      }

      last : (u : ℕ) → k ≡ u
          → IsOctantWord a.held level node keys indices u (slice_index (set words k word) u)
      last u e = subst
          (λ (v : ℕ). IsOctantWord a.held level node keys indices v
          (slice_index (set words k word) v)) e
          (subst (λ (w : ℕ). IsOctantWord a.held level node keys indices k w)
          (sym (get_or-set_same words k word 0 room)) here)
