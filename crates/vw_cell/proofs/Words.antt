-- One bit of a row of words is written.
use Rattle.std.proofs.Common.{◌≡◌, ◌≢◌, ℕ, zero, suc, ◌*◌, ◌/◌, ◌%◌, ◌^◌, ◌<◌, List, false, ◌==◌, length, get_or, replicate, set, refl, ap, arith, inl, inr, get_or-set_other, get_or-set_same, lit<}
use Rattle.std.proofs.lemmas.Nat.{div-add-mod', mod_below}
use Rattle.std.specs.Prelude.{bit_or, bit_and}
use Rattle.std.specs.Int.{bit_at, bit_not, w64}
use Rattle.std.proofs.lemmas.Bool.{cases_eq}
use Rattle.std.proofs.lemmas.Nat.Bits.{bit_at_set_same, bit_at_set_other, bit_at_clear_same, bit_at_clear_other, bit_at-zero}
use Rattle.vw_cell.specs.Bits.{is_set, Keeps}

zeros : (n k : ℕ) → get_or {A = ℕ} (replicate n 0) k 0 ≡ 0
zeros zero k = refl
zeros (suc n) zero = refl
zeros (suc n) (suc k) = zeros n k

pub none_set : (n i : ℕ) → is_set (replicate n 0) i ≡ false
none_set n i = rw (zeros n (i / 64), bit_at-zero) refl

pub put_here : (words : List ℕ) (i w : ℕ) → i / 64 < length words
    → is_set (set words (i / 64) w) i ≡ (bit_at w (i % 64) == 1)
put_here words i w inside = rw get_or-set_same refl

-- two places of one word are places of two bits
apart : (i j : ℕ) → j ≢ i → j / 64 ≡ i / 64 → j % 64 ≢ i % 64
apart i j other word bit = other (omega (arith, div-add-mod' i 64, div-add-mod' j 64))

pub put_elsewhere : (words : List ℕ) (i j w : ℕ) → i / 64 < length words
    → Keeps (i % 64) (get_or words (i / 64) 0) w → j ≢ i
    → is_set (set words (i / 64) w) j ≡ is_set words j
put_elsewhere words i j w inside keeps other =
    elim (cases_eq (j / 64) (i / 64)) [
      | inl word ↦
          let at_word : get_or (set words (i / 64) w) (j / 64) 0 ≡ w =
          rw (word, get_or-set_same) refl in
          let was : get_or words (j / 64) 0 ≡ get_or words (i / 64) 0 =
          ap (λ k. get_or words k 0) word in
          let bit : bit_at w (j % 64) ≡ bit_at (get_or words (i / 64) 0) (j % 64) =
          keeps.each (j % 64) (mod_below j 64 (lit< tt)) (apart i j other word) in
          rw (at_word, was, bit) refl
      | inr word ↦ rw (get_or-set_other) refl
    ]

pub set_bit : (n k : ℕ) → k < 64 → bit_at (bit_or n (1 * 2 ^ k % 2 ^ 64)) k ≡ 1
set_bit n k h = bit_at_set_same w64 n k h

pub set_keeps : (n k : ℕ) → k < 64 → Keeps k n (bit_or n (1 * 2 ^ k % 2 ^ 64))
set_keeps n k h = record { each = λ m _ other. bit_at_set_other w64 n k h m other }

pub clear_bit : (n k : ℕ) → k < 64 → bit_at (bit_and n (bit_not w64 (1 * 2 ^ k % 2 ^ 64))) k ≡ 0
clear_bit n k h = bit_at_clear_same w64 n k h

pub clear_keeps : (n k : ℕ) → k < 64 → Keeps k n (bit_and n (bit_not w64 (1 * 2 ^ k % 2 ^ 64)))
clear_keeps n k h = record { each = λ m lt other. bit_at_clear_other w64 n k h m lt other }
