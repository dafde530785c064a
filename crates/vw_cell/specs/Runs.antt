-- Runs of bits of a word of 64: as a number, as two shifts make it, and the bits that it has.
use Rattle.std.proofs.Common.{◌≡◌, ℕ, ◌+◌, ◌-◌, ◌*◌, ◌/◌, ◌%◌, ◌^◌, ◌<◌, ◌≤◌, ◌⊎◌, inl, inr, ap, sym, ◌∙◌, arith}
use Rattle.std.specs.Int.{bit_at}
use Rattle.std.proofs.lemmas.Nat.{pow-add, pow_pos}
use Rattle.std.proofs.lemmas.Nat.Bits.{ones_shr, bit_at_mask_inside, bit_at_mask_below, bit_at_mask_above}
use lib.Pow.{pow_mono}
use native.Mathlib.Nat.{mod-eq_of_lt, mul-sub, mul_comm, mul-one}

-- `MAX` shifted down to `piece` bits
pub low_ones : (piece : ℕ) → piece ≤ 64 → (2 ^ 64 - 1) / 2 ^ (64 - piece) ≡ 2 ^ piece - 1
low_ones piece inside =
    let shifted : (2 ^ 64 - 1) / 2 ^ (64 - piece) ≡ 2 ^ (64 - (64 - piece)) - 1 =
    ones_shr 64 (64 - piece) (omega arith)
    in
    let left : 64 - (64 - piece) ≡ piece = omega arith in
    shifted ∙ ap (λ (n : ℕ). 2 ^ n - 1) left

pub shifted_ones : (k piece : ℕ) → (2 ^ piece - 1) * 2 ^ k ≡ 2 ^ (k + piece) - 2 ^ k
shifted_ones k piece =
    mul_comm (2 ^ piece - 1) (2 ^ k) ∙ mul-sub (2 ^ k) (2 ^ piece) 1
    ∙ ap (λ (n : ℕ). 2 ^ k * 2 ^ piece - n) (mul-one (2 ^ k))
    ∙ ap (λ (n : ℕ). n - 2 ^ k) (sym (pow-add 2 k piece))

pub mask_small : (k piece : ℕ) → k + piece ≤ 64 → 2 ^ (k + piece) - 2 ^ k < 2 ^ 64
mask_small k piece inside =
    let whole : 2 ^ (k + piece) ≤ 2 ^ 64 = pow_mono inside in
    let some : 0 < 2 ^ k = pow_pos k in
    omega (arith, whole, some)

-- the run of `piece` bits from bit k on
pub mask_is : (k piece : ℕ) → k + piece ≤ 64
    → (2 ^ 64 - 1) / 2 ^ (64 - piece) * 2 ^ k % 2 ^ 64 ≡ 2 ^ (k + piece) - 2 ^ k
mask_is k piece inside =
    let product : (2 ^ 64 - 1) / 2 ^ (64 - piece) * 2 ^ k ≡ 2 ^ (k + piece) - 2 ^ k =
    ap (λ (n : ℕ). n * 2 ^ k) (low_ones piece (omega arith)) ∙ shifted_ones k piece
    in
    ap (λ (n : ℕ). n % 2 ^ 64) product ∙ mod-eq_of_lt (mask_small k piece inside)

-- the bits of the run, and the others
pub in_run : (k piece m : ℕ) → k ≤ m → m < k + piece → bit_at (2 ^ (k + piece) - 2 ^ k) m ≡ 1
in_run k piece m low high = bit_at_mask_inside k (k + piece) m low high

pub off_run : (k piece m : ℕ) → (m < k) ⊎ (k + piece ≤ m) → bit_at (2 ^ (k + piece) - 2 ^ k) m ≡ 0
off_run k piece m (inl below) = bit_at_mask_below k (k + piece) m below
off_run k piece m (inr above) = bit_at_mask_above k (k + piece) m above
