-- A sum over a box is the sum over its parts in the eight octants.
use Rattle.std.proofs.Common.{◌≡◌, ℕ, zero, suc, ◌+◌, ◌*◌, ◌<◌, ◌≤◌, refl, ap, ◌∙◌, arith}
use Rattle.vw_cell.specs.Sums.{sum_below, sum_below-same, sum_below-add}
use Rattle.node_words.specs.descent.Parts.{half_at, half_size}

-- a sum of sums
pub sum_below-plus : (n : ℕ) (f g : ℕ → ℕ)
    → sum_below n (λ i. f i + g i) ≡ sum_below n f + sum_below n g
unfolding sum_below
sum_below-plus zero f g = refl
sum_below-plus (suc n) f g = let below = sum_below-plus n f g in omega (arith, below)

-- the terms of a stretch, told from the beginning of its half
abbrev pub in_half : (ℕ → ℕ) → ℕ → ℕ → ℕ → ℕ → ℕ
in_half f half i at size =
    sum_below (half_size half i at size) (λ p. f (i * half + (half_at half i at + p)))

-- a sum over a stretch of one axis goes by halves
pub by_halves : (half at size : ℕ) (f : ℕ → ℕ) → at + size ≤ 2 * half
    → sum_below size (λ p. f (at + p)) ≡ in_half f half 0 at size + in_half f half 1 at size
by_halves half at size f fits =
    let low = half_size half 0 at size in
    let high = half_size half 1 at size in
    let all : size ≡ low + high = omega arith in
    let first : sum_below low (λ p. f (at + p)) ≡ in_half f half 0 at size =
    sum_below-same low _ _
    (λ p lt. let e : at + p ≡ 0 * half + (half_at half 0 at + p) = omega arith in ap f e) in
    let second : sum_below high (λ p. f (at + (low + p))) ≡ in_half f half 1 at size =
    sum_below-same high _ _
    (λ p lt. let e : at + (low + p)
    ≡ 1 * half + (half_at half 1 at + p) = omega arith in ap f e) in
    let parts = sum_below-add low high (λ p. f (at + p)) in
    ap (λ (n : ℕ). sum_below n (λ p. f (at + p))) all ∙ parts ∙ omega (arith, first, second)

-- what lies in a half lies below its end
pub below_half : (half i at size p : ℕ) → at + size ≤ 2 * half → p < half_size half i at size
    → half_at half i at + p < half
below_half half zero at size p fits lt = omega arith
below_half half (suc i) at size p fits lt = omega arith
