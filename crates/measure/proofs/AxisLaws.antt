-- Places next to a place on one axis, in halves i and j of a block whose half is `half` long.
use Rattle.std.proofs.Common.{◌≡◌, ℕ, zero, suc, ◌+◌, ◌-◌, ◌*◌, ◌<◌, ◌≤◌, ap, arith}

pub up_one : (m x : ℕ) → m + x + 1 ≡ m + (x + 1)
up_one m x = omega arith

pub up_in : (side half i x : ℕ) → side ≡ 2 * half → i < 2 → x + 1 < half → i * half + x + 1 < side
up_in side half zero x d lt h = omega arith
up_in side half (suc zero) x d lt h = omega arith
up_in side half (suc (suc i)) x d lt h = absurd (omega arith)

pub up_stay : (side half i x : ℕ) → side ≡ 2 * half → i ≡ 0 → x < half → i * half + x + 1 < side
up_stay side half i x d e h =
    let p : i * half ≡ 0 * half = ap (λ (n : ℕ). n * half) e in omega (arith, p)

pub up_over : (half i j x : ℕ) → i ≡ 0 → j ≡ 1 → x < half → half ≤ x + 1
    → i * half + x + 1 ≡ j * half + 0
up_over half i j x e f h edge =
    let p : i * half ≡ 0 * half =
    ap (λ (n : ℕ). n * half) e in let q : j * half
    ≡ 1 * half = ap (λ (n : ℕ). n * half) f in omega (arith, p, q)

pub up_out : (side half i x : ℕ) → side ≡ 2 * half → i ≡ 1 → half ≤ x + 1 → side ≤ i * half + x + 1
up_out side half i x d e edge =
    let p : i * half ≡ 1 * half = ap (λ (n : ℕ). n * half) e in omega (arith, p)

pub up_first : (half j : ℕ) → j ≡ 0 → 0 ≡ j * half + 0
up_first half j e = let p : j * half ≡ 0 * half = ap (λ (n : ℕ). n * half) e in omega (arith, p)

pub down_one : (m x : ℕ) → 0 < x → m + x - 1 ≡ m + (x - 1)
down_one m x h = omega arith

pub down_in : (m x : ℕ) → 0 < x → 0 < m + x
down_in m x h = omega arith

pub down_stay : (half i x : ℕ) → 0 < half → i ≡ 1 → 0 < i * half + x
down_stay half i x some e =
    let p : i * half ≡ 1 * half = ap (λ (n : ℕ). n * half) e in omega (arith, p)

pub down_over : (half i j x : ℕ) → 0 < half → i ≡ 1 → j ≡ 0 → x ≤ 0
    → i * half + x - 1 ≡ j * half + (half - 1)
down_over half i j x some e f h =
    let p : i * half ≡ 1 * half =
    ap (λ (n : ℕ). n * half) e in let q : j * half
    ≡ 0 * half = ap (λ (n : ℕ). n * half) f in omega (arith, p, q)

pub down_out : (half i x : ℕ) → i ≡ 0 → x ≤ 0 → i * half + x ≤ 0
down_out half i x e h = let p : i * half ≡ 0 * half = ap (λ (n : ℕ). n * half) e in omega (arith, p)

pub down_last : (side half j : ℕ) → side ≡ 2 * half → j ≡ 1 → side - 1 ≡ j * half + (half - 1)
down_last side half j d e =
    let p : j * half ≡ 1 * half = ap (λ (n : ℕ). n * half) e in omega (arith, p)
