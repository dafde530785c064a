-- Runs of bits, and runs that repeat.
use Rattle.std.proofs.Common.{◌≡◌, ℕ, zero, suc, ◌+◌, ◌-◌, ◌*◌, ◌^◌, ◌<◌, ◌≤◌, true, false, ◌==◌, ap, sym, ◌∙◌, arith, inl, inr, min}
use Rattle.std.specs.Prelude.{bit_and, ◌&&◌}
use Rattle.std.specs.Int.{bit_at}
use Rattle.std.proofs.lemmas.Bool.{cases_lt}
use Rattle.std.proofs.lemmas.Bool.Decides.{nat_tests}
use Rattle.std.proofs.lemmas.Nat.Bits.{bit_at_and, bit_at_mask_inside, bit_at_mask_below, bit_at_mask_above, bit_at-lt, bit_at_cat_low, bit_at_cat_high}
use native.Mathlib.Nat.{mul-zero}
use Rattle.node_words.specs.kernels.Parts.{is_from_below}

below_from : (from to p : ℕ) → p < from → is_from_below from to p ≡ false
below_from from to p h = grind (arith, nat_tests)

pub from_to : (from to p : ℕ) → from ≤ p → p < to → is_from_below from to p ≡ true
from_to from to p h k = grind (arith, nat_tests)

pub past_to : (from to p : ℕ) → to ≤ p → is_from_below from to p ≡ false
past_to from to p h = grind (arith, nat_tests)

-- which bits a run has
pub run_has : (from to p : ℕ) → (bit_at (2 ^ to - 2 ^ from) p == 1) ≡ is_from_below from to p
run_has from to p =
    elim (cases_lt p from) [
      | inl below ↦ ap (λ (b : ℕ). b == 1) (bit_at_mask_below from to p below)
          ∙ sym (below_from from to p below)
      | inr from_on ↦
          elim (cases_lt p to) [
            | inl inside ↦ ap (λ (b : ℕ). b == 1) (bit_at_mask_inside from to p from_on inside)
                ∙ sym (from_to from to p from_on inside)
            | inr above ↦ ap (λ (b : ℕ). b == 1) (bit_at_mask_above from to p above)
                ∙ sym (past_to from to p above)
          ]
    ]

-- a number of w bits, n times over
abbrev pub repeated : ℕ → ℕ → ℕ → ℕ
repeated w zero m = 0
repeated w (suc n) m = repeated w n m * 2 ^ w + m

pub repeated-bit : (w n m k r : ℕ) → m < 2 ^ w → k < n → r < w
    → bit_at (repeated w n m) (k * w + r) ≡ bit_at m r
repeated-bit w zero m k r small h lt = absurd (omega arith)
repeated-bit w (suc n) m zero r small h lt =
    let e : 0 * w + r ≡ r = omega arith in rw e (bit_at_cat_low (repeated w n m) w m r lt)
repeated-bit w (suc n) m (suc k) r small h lt =
    let more : suc k * w ≡ k * w + w = grind arith in
    let e : suc k * w + r - w ≡ k * w + r = omega (arith, more) in
    bit_at_cat_high (repeated w n m) w m (suc k * w + r) small (omega (arith, more))
    ∙ ap (bit_at (repeated w n m)) e ∙ repeated-bit w n m k r small (omega arith) lt

pub repeated_times : (w n m : ℕ) → repeated w n m ≡ m * repeated w n 1
repeated_times w zero m = sym (mul-zero m)
repeated_times w (suc n) m = let rest = repeated_times w n m in rw rest (grind arith)

-- the bits of 4 in each of the 16 rows, and of 16 in each of the 4 layers
pub rows_have : (m k r : ℕ) → m < 2 ^ 4 → k < 16 → r < 4
    → bit_at (m * 0x1111_1111_1111_1111) (k * 4 + r) ≡ bit_at m r
rows_have m k r small h lt =
    let e : repeated 4 16 m ≡ m * 0x1111_1111_1111_1111 = repeated_times 4 16 m in
    sym (ap (λ (n : ℕ). bit_at n (k * 4 + r)) e) ∙ repeated-bit 4 16 m k r small h lt

pub layers_have : (m k r : ℕ) → m < 2 ^ 16 → k < 4 → r < 16
    → bit_at (m * 0x0001_0001_0001_0001) (k * 16 + r) ≡ bit_at m r
layers_have m k r small h lt =
    let e : repeated 16 4 m ≡ m * 0x0001_0001_0001_0001 = repeated_times 16 4 m in
    sym (ap (λ (n : ℕ). bit_at n (k * 16 + r)) e) ∙ repeated-bit 16 4 m k r small h lt

test_of : (a b : ℕ) → a < 2 → b < 2 → (min a b == 1) ≡ (a == 1 && b == 1)
test_of a b p q = grind (arith, nat_tests)

-- a bit of both
pub and_has : (a b i : ℕ) → (bit_at (bit_and a b) i == 1) ≡ (bit_at a i == 1 && bit_at b i == 1)
and_has a b i =
    ap (λ (n : ℕ). n == 1) (bit_at_and a b i)
    ∙ test_of (bit_at a i) (bit_at b i) (bit_at-lt a i) (bit_at-lt b i)
