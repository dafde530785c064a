-- Laws of weights, for rows of trees that are filled place by place.
use Rattle.std.proofs.Common.{◌≡◌, ◌≢◌, ℕ, zero, suc, ◌+◌, ◌*◌, ◌<◌, ◌≤◌, Some, None, List, [], ◌∷◌, ◌++◌, refl, ap, arith, inl, inr}
use Rattle.std.specs.Prelude.{replicate}
use Rattle.std.proofs.lemmas.Bool.{cases_lt}
use Rattle.std.proofs.lemmas.List.Sums.{sum_by-append, sum_by-cons}
use Rattle.std.proofs.lemmas.List.Folds.{sum_by-replicate}
use Rattle.node_words.specs.declared.shapes.names.Name.{Name}
use Rattle.node_words.specs.shapes.Tree.{Tree, Gone, LeafAt, NodeAt, root_of}
use Rattle.node_words.specs.shapes.Weights.{weigh, weight_of, weight_below, put_row}

pub weigh-nil : (f : Tree → ℕ) → weigh f [] ≡ 0
unfolding weigh
weigh-nil f = refl

pub weigh-cons : (f : Tree → ℕ) (t : Tree) (ts : List Tree) → weigh f (t ∷ ts) ≡ f t + weigh f ts
unfolding weigh
weigh-cons f t ts = sum_by-cons f t ts

pub weigh-append : (f : Tree → ℕ) (ts us : List Tree) → weigh f (ts ++ us) ≡ weigh f ts + weigh f us
unfolding weigh
weigh-append f ts us = sum_by-append f ts us

pub weigh-replicate : (f : Tree → ℕ) (n : ℕ) (t : Tree) → weigh f (replicate n t) ≡ n * f t
unfolding weigh
weigh-replicate f n t = sum_by-replicate f n t

-- a tree with a name weighs itself
pub weight_of-there : (f : Tree → ℕ) (t : Tree) (n : Name) → root_of t ≡ Some n
    → weight_of f t ≡ f t
unfolding weight_of
weight_of-there f Gone n e = cc
weight_of-there f (LeafAt m b) n e = refl
weight_of-there f (NodeAt m a b c d e f' g h) n r = refl

pub weight_of-gone : (f : Tree → ℕ) (t : Tree) → root_of t ≡ None → weight_of f t ≡ 0
unfolding weight_of
weight_of-gone f Gone e = refl
weight_of-gone f (LeafAt m b) e = cc
weight_of-gone f (NodeAt m a b c d e f' g h) r = cc

pub weight_of-one : (t : Tree) → weight_of (λ _. 1) t ≤ 1
unfolding weight_of
weight_of-one Gone = omega arith
weight_of-one (LeafAt n b) = omega arith
weight_of-one (NodeAt m a b c d e f g h) = omega arith

-- k trees are at most k
pub weight_below-one : (row : ℕ → Tree) (k : ℕ) → weight_below (λ _. 1) row k ≤ k
weight_below-one row zero = omega arith
weight_below-one row (suc k) = omega (arith, weight_below-one row k, weight_of-one (row k))

-- the weight of one of a row, besides those before it
pub weight_below-part : (f : Tree → ℕ) (row : ℕ → Tree) (k n : ℕ) → k < n
    → weight_of f (row k) + weight_below f row k ≤ weight_below f row n
weight_below-part f row k zero h = absurd (omega arith)
weight_below-part f row k (suc n) h =
    elim
    (cases_lt k n) [
      | inl l ↦ omega (arith, weight_below-part f row k n l)
      | inr r ↦ let e : k
          ≡ n = omega arith in rw e (omega arith)
    ]

-- rows that agree weigh the same
pub weight_below-same : (f : Tree → ℕ) (row other : ℕ → Tree) (n : ℕ)
    → ((k : ℕ) → k < n → row k ≡ other k) → weight_below f row n ≡ weight_below f other n
weight_below-same f row other zero h = refl
weight_below-same f row other (suc n) h =
    omega (
      arith,
      weight_below-same f row other n (λ k lt. h k (omega arith)),
      ap (weight_of f)
          (h n (omega arith)),
    )

pub put_row-same : (row : ℕ → Tree) (k : ℕ) (t : Tree) → put_row row k t k ≡ t
put_row-same row zero t = refl
put_row-same row (suc k) t = put_row-same (λ i. row (suc i)) k t

pub put_row-other : (row : ℕ → Tree) (k : ℕ) (t : Tree) (j : ℕ) → j ≢ k → put_row row k t j ≡ row j
put_row-other row zero t zero ne = absurd (ne refl)
put_row-other row zero t (suc j) ne = refl
put_row-other row (suc k) t zero ne = refl
put_row-other row (suc k) t (suc j) ne = put_row-other (λ i. row (suc i)) k t j (λ e. ne (ap suc e))

-- what a row weighs up to a place doesn't depend on what stands from there on
pub weight_below-put_after : (f : Tree → ℕ) (row : ℕ → Tree) (k : ℕ) (t : Tree) (n : ℕ) → n ≤ k
    → weight_below f (put_row row k t) n ≡ weight_below f row n
weight_below-put_after f row k t zero h = refl
weight_below-put_after f row k t (suc n) h =
    let ne : n ≢ k = omega arith in
    rw (put_row-other row k t n ne)
    (ap (λ (w : ℕ). weight_of f (row n) + w) (weight_below-put_after f row k t n (omega arith)))

pub weight_below-put : (f : Tree → ℕ) (row : ℕ → Tree) (k : ℕ) (t : Tree) (n : ℕ) → k < n
    → weight_below f (put_row row k t) n + weight_of f
    (row k) ≡ weight_below f row n + weight_of f t
weight_below-put f row k t zero h = absurd (omega arith)
weight_below-put f row k t (suc n) h = elim (cases_lt k n) [
  | inl l ↦ let ne : n ≢ k = omega arith in rw (put_row-other row k t n ne)
      (omega (arith, weight_below-put f row k t n l))
  | inr r ↦ let e : n
      ≡ k = omega arith in rw (e, put_row-same row k t)
      (omega (arith, weight_below-put_after f row k t k (omega arith)))
]
