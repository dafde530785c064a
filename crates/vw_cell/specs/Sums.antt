-- Sums of a function of the numbers below a bound, and how many of them pass a test.
use Rattle.std.specs.Prelude.{◌≡◌, ◌≢◌, ℕ, zero, suc, ◌+◌, ◌*◌, ◌<◌, ◌≤◌, Bool, true, false, refl}
use Rattle.std.proofs.Common.{arith, ap, sym, inl, inr}
use Rattle.std.proofs.lemmas.Bool.{cases_eq}
use native.Mathlib.Nat.{suc-mul, add-zero, add-suc}

-- f 0 + f 1 + .. up to f (n - 1)
unfoldable pub sum_below : ℕ → (ℕ → ℕ) → ℕ
sum_below zero f = 0
sum_below (suc n) f = sum_below n f + f n

-- 1 where the test holds
abbrev pub one_if : Bool → ℕ
one_if true = 1
one_if false = 0

pub sum_below-suc : (n : ℕ) (f : ℕ → ℕ) → sum_below (suc n) f ≡ sum_below n f + f n
unfolding sum_below
sum_below-suc n f = refl

pub sum_below-zero : (f : ℕ → ℕ) → sum_below 0 f ≡ 0
unfolding sum_below
sum_below-zero f = refl

-- equal terms have equal sums
pub sum_below-same : (n : ℕ) (f g : ℕ → ℕ) → ((i : ℕ) → i < n → f i ≡ g i)
    → sum_below n f ≡ sum_below n g
unfolding sum_below
sum_below-same zero f g same = refl
sum_below-same (suc n) f g same =
    let below : sum_below n f ≡ sum_below n g =
    sum_below-same n f g (λ i lt. same i (omega arith))
    in
    let last : f n ≡ g n = same n (omega arith) in
    omega arith

-- a sum changes as its one changed term does
pub sum_below-change : (n k : ℕ) (f g : ℕ → ℕ) → k < n → ((i : ℕ) → i < n → i ≢ k → f i ≡ g i)
    → sum_below n g + f k ≡ sum_below n f + g k
unfolding sum_below
sum_below-change zero k f g lt same = absurd (omega arith)
sum_below-change (suc n) k f g lt same =
    elim (cases_eq k n) [
      | inl last ↦
          let below : sum_below n f ≡ sum_below n g =
          sum_below-same n f g (λ i less. same i (omega arith) (omega arith))
          in
          let of_f : f k ≡ f n = ap f last in
          let of_g : g k ≡ g n = ap g last in
          omega arith
      | inr other ↦
          let below : sum_below n g + f k ≡ sum_below n f + g k =
          sum_below-change n k f g (omega arith) (λ i less. same i (omega arith))
          in
          let at_last : f n ≡ g n = same n (omega arith) (λ e. other (sym e)) in
          omega arith
    ]

-- a sum of terms of at most m
pub sum_below-le : (n m : ℕ) (f : ℕ → ℕ) → ((i : ℕ) → i < n → f i ≤ m) → sum_below n f ≤ n * m
unfolding sum_below
sum_below-le zero m f small = omega arith
sum_below-le (suc n) m f small =
    let below : sum_below n f ≤ n * m = sum_below-le n m f (λ i lt. small i (omega arith)) in
    let last : f n ≤ m = small n (omega arith) in
    omega (arith, suc-mul n m)

pub one_if-le : (b : Bool) → one_if b ≤ 1
one_if-le true = omega arith
one_if-le false = omega arith

-- a term is at most its sum
pub sum_below-at : (n k : ℕ) (f : ℕ → ℕ) → k < n → f k ≤ sum_below n f
unfolding sum_below
sum_below-at zero k f lt = absurd (omega arith)
sum_below-at (suc n) k f lt =
    elim (cases_eq k n) [
      | inl last ↦ (let here : f k ≡ f n = ap f last in omega arith)
      | inr other ↦ (
          let below : f k ≤ sum_below n f = sum_below-at n k f (omega arith) in
          omega arith)
    ]

pub sum_below-none : (n : ℕ) (f : ℕ → ℕ) → ((i : ℕ) → f i ≡ 0) → sum_below n f ≡ 0
sum_below-none n f none =
    let bound : sum_below n f ≤ n * 0 = sum_below-le n 0 f
    (λ i _. (let zeros = none i in omega arith)) in omega arith

-- a sum in two parts
pub sum_below-add : (a b : ℕ) (f : ℕ → ℕ)
    → sum_below (a + b) f ≡ sum_below a f + sum_below b (λ i. f (a + i))
unfolding sum_below
sum_below-add a zero f =
    rw add-zero (let none : sum_below 0 (λ i. f (a + i)) ≡ 0 = refl in omega arith)
sum_below-add a (suc b) f = rw add-suc (let parts = sum_below-add a b f in omega (arith, parts))
