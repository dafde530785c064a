-- Runs of bits of one word.
use Rattle.std.proofs.Common.{◌≡◌, ℕ, zero, suc, ◌+◌, ◌-◌, ◌*◌, ◌/◌, ◌%◌, ◌^◌, ◌<◌, ◌≤◌, Bool, true, false, ◌==◌, refl, ap, ◌∙◌, arith, max, min, lit<}
use Rattle.std.specs.Prelude.{bit_and, bit_or, count_ones}
use Rattle.std.specs.Int.{bit_at, bit_not, w64}
use Rattle.std.proofs.lemmas.Nat.{ones_cat, and_mask, mod_below, pow_pos, mod-pow-add, shr-shr}
use Rattle.std.proofs.lemmas.Nat.Bits.{bit_at_or, bit_at_and, bit_at_not, bit_at-lt}
use lib.Count.{ones, ones_in}
use Rattle.vw_cell.specs.Sums.{sum_below, one_if, sum_below-same, sum_below-le, one_if-le}
use Rattle.vw_cell.specs.Runs.{low_ones, mask_small, in_run, off_run}
use Rattle.vw_cell.specs.Bits.{PutsBits}

pub sets_bits : (word k piece : ℕ) (value : Bool) (mask : ℕ) → value ≡ true
    → mask ≡ 2 ^ (k + piece) - 2 ^ k → PutsBits k piece value word (bit_or word mask)
sets_bits word k piece value mask yes_value is =
    record {
      inside = λ m low high.
          let of_mask : bit_at mask m ≡ 1 =
          ap (λ (n : ℕ). bit_at n m) is ∙ in_run k piece m low high in
          let joined : bit_at (bit_or word mask) m ≡ max (bit_at word m) (bit_at mask m) =
          bit_at_or word mask m in
          let small : bit_at word m < 2 = bit_at-lt word m in
          let one : bit_at (bit_or word mask) m ≡ 1 = omega (arith, of_mask, joined, small) in
          rw (one, yes_value) refl;
      outside = λ m within off.
          let of_mask : bit_at mask m ≡ 0 = ap (λ (n : ℕ). bit_at n m) is ∙ off_run k piece m off in
          let joined : bit_at (bit_or word mask) m ≡ max (bit_at word m) (bit_at mask m) =
          bit_at_or word mask m in
          omega (arith, of_mask, joined);
    }

pub clears_bits : (word k piece : ℕ) (value : Bool) (mask : ℕ) → value ≡ false → k + piece ≤ 64
    → mask ≡ 2 ^ (k + piece) - 2 ^ k
    → PutsBits k piece value word (bit_and word (2 ^ 64 - 1 - mask))
clears_bits word k piece value mask no_value inside is =
    let small : mask < 2 ^ 64 = rw is (mask_small k piece inside) in
    record {
      inside = λ m low high.
          let of_mask : bit_at mask m ≡ 1 =
          ap (λ (n : ℕ). bit_at n m) is ∙ in_run k piece m low high in
          let of_not : bit_at (bit_not w64 mask) m ≡ 1 - bit_at mask m =
          bit_at_not w64 mask m small (omega arith) in
          let joined : bit_at (bit_and word (bit_not w64 mask)) m ≡ min (bit_at word m) (bit_at (bit_not w64 mask) m) = bit_at_and word (bit_not w64 mask) m in
          let none : bit_at (bit_and word (bit_not w64 mask)) m ≡ 0 =
          omega (arith, of_mask, of_not, joined) in
          rw (none, no_value) refl;
      outside = λ m within off.
          let of_mask : bit_at mask m ≡ 0 = ap (λ (n : ℕ). bit_at n m) is ∙ off_run k piece m off in
          let of_not : bit_at (bit_not w64 mask) m ≡ 1 - bit_at mask m =
          bit_at_not w64 mask m small within in
          let joined : bit_at (bit_and word (bit_not w64 mask)) m ≡ min (bit_at word m) (bit_at (bit_not w64 mask) m) = bit_at_and word (bit_not w64 mask) m in
          let binary : bit_at word m < 2 = bit_at-lt word m in
          omega (arith, of_mask, of_not, joined, binary);
    }

-- how many bits of a number below 2 ^ piece are set
ones_bit : (b : ℕ) → b < 2 → ones b ≡ one_if (b == 1)
unfolding ones ones_in
ones_bit zero h = refl
ones_bit (suc zero) h = refl
ones_bit (suc (suc b)) h = absurd (omega arith)

pub ones_low : (piece n : ℕ)
    → ones (n % 2 ^ piece) ≡ sum_below piece (λ m. one_if (bit_at n m == 1))
unfolding sum_below ones ones_in
ones_low zero n = let none : n % 2 ^ 0 ≡ 0 = omega (arith, mod_below n 1 (lit< tt)) in ap ones none
ones_low (suc piece) n =
    let more : suc piece ≡ 1 + piece = omega arith in
    let split : n % 2 ^ suc piece ≡ n / 2 ^ piece % 2 * 2 ^ piece + n % 2 ^ piece =
    ap (λ (e : ℕ). n % 2 ^ e) more ∙ mod-pow-add n 1 piece in
    let parts : ones (n / 2 ^ piece % 2 * 2 ^ piece + n % 2 ^ piece) ≡ ones (n / 2 ^ piece % 2) + ones (n % 2 ^ piece) =
    ones_cat piece (n / 2 ^ piece % 2) (n % 2 ^ piece) (mod_below n (2 ^ piece) (pow_pos piece))
    in
    let top : ones (n / 2 ^ piece % 2) ≡ one_if (bit_at n piece == 1) = ones_bit (n / 2 ^ piece % 2) (mod_below (n / 2 ^ piece) 2 (lit< tt)) in
    let low : ones (n % 2 ^ piece) ≡ sum_below piece (λ m. one_if (bit_at n m == 1)) = ones_low piece n in
    let whole : ones (n % 2 ^ suc piece) ≡ ones (n / 2 ^ piece % 2) + ones (n % 2 ^ piece) =
    ap ones split ∙ parts in
    omega (arith, whole, top, low)

pub count_is : (word k piece : ℕ) → 1 ≤ piece → k + piece ≤ 64
    → count_ones (bit_and (word / 2 ^ k) ((2 ^ 64 - 1) / 2 ^ (64 - piece))) ≡ sum_below piece
    (λ m. one_if (bit_at word (k + m) == 1))
count_is word k piece some inside =
    let masked : bit_and (word / 2 ^ k) ((2 ^ 64 - 1) / 2 ^ (64 - piece)) ≡ word / 2 ^ k % 2 ^ piece =
    ap (bit_and (word / 2 ^ k)) (low_ones piece (omega arith)) ∙ and_mask (word / 2 ^ k) piece
    in
    ap count_ones masked ∙ ones_low piece (word / 2 ^ k)
    ∙ sum_below-same piece _ _ (λ m _. ap (λ (b : ℕ). one_if (b % 2 == 1)) (shr-shr word k m))

pub count_small : (word k piece : ℕ) → 1 ≤ piece → k + piece ≤ 64
    → count_ones (bit_and (word / 2 ^ k) ((2 ^ 64 - 1) / 2 ^ (64 - piece))) ≤ piece
count_small word k piece some inside =
    let is = count_is word k piece some inside in
    let terms : sum_below piece (λ m. one_if (bit_at word (k + m) == 1)) ≤ piece * 1 = sum_below-le piece 1 _ (λ m _. one_if-le (bit_at word (k + m) == 1)) in
    omega (arith, is, terms)
