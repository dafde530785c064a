-- A number is read digit by digit.
use Rattle.std.proofs.Common.{◌≡◌, ℕ, suc, ◌+◌, ◌-◌, ◌*◌, ◌^◌, ◌<◌, ◌≤◌, List, [], ◌∷◌, length, get_or, drop, Some, None, true, false, refl, arith, drop-cons, add-one}
use Rattle.std.proofs.Math.Nat.{pow-suc, pow-le-pow_right}
use Rattle.std.proofs.lemmas.Bool.{le-leb, and_from}
use Rattle.std.proofs.lemmas.List.{drop_all}
use Rattle.vox_scene.specs.Numbers.{digits_onto, is_digit_byte}

digits-cons : (n b : ℕ) (rest : List ℕ) → is_digit_byte b ≡ true
    → digits_onto n (b ∷ rest) ≡ digits_onto (10 * n + (b - 48)) rest
unfolding digits_onto
digits-cons n b rest digit = rw digit refl

digits-fail : (n b : ℕ) (rest : List ℕ) → is_digit_byte b ≡ false → digits_onto n (b ∷ rest) ≡ None
unfolding digits_onto
digits-fail n b rest other = rw other refl

-- a digit more
pub digits_step : (n i : ℕ) (word : List ℕ) → i < length word → 48 ≤ get_or word i 0
    → get_or word i 0 ≤ 57
    → digits_onto n (drop i word) ≡ digits_onto (10 * n + (get_or word i 0 - 48))
    (drop (i + 1) word)
digits_step n i word less low high =
    let b = get_or word i 0 in
    let digit : is_digit_byte b ≡ true = and_from _ _ (le-leb 48 b low) (le-leb b 57 high) in
    rw (drop-cons word i 0, add-one) (digits-cons n b (drop (suc i) word) digit)

-- a byte that is no digit
pub digits_stop : (n i : ℕ) (word : List ℕ) → i < length word
    → is_digit_byte (get_or word i 0) ≡ false
    → digits_onto n (drop i word) ≡ None
digits_stop n i word less other =
    rw (drop-cons word i 0) (digits-fail n (get_or word i 0) (drop (suc i) word) other)

no_digits : (n : ℕ) → digits_onto n [] ≡ Some n
unfolding digits_onto
no_digits n = refl

-- after the last digit
pub digits_end : (n i : ℕ) (word : List ℕ) → length word ≤ i → digits_onto n (drop i word) ≡ Some n
digits_end n i word far = rw (drop_all i word far) (no_digits n)

-- a number of i digits, and one with a digit more
pub digits_small : (n i d : ℕ) → n < 10 ^ i → i < 6 → d ≤ 9
    → (10 * n + d < 10 ^ (i + 1)) × (10 * n + d < 2 ^ 32)
digits_small n i d small few digit =
    let ten : 10 ^ (i + 1) ≡ 10 * 10 ^ i = rw add-one (omega (arith, pow-suc 10 i)) in
    let most : 10 ^ (i + 1) ≤ 10 ^ 6 =
    pow-le-pow_right {n = 10} (omega arith) {i = i + 1} {j = 6} (omega arith) in
    (omega arith, omega arith)

pub few_digits : (n i : ℕ) → n < 10 ^ i → i ≤ 6 → n < 10 ^ 6
few_digits n i small few =
    let most : 10 ^ i ≤ 10 ^ 6 = pow-le-pow_right {n = 10} (omega arith) {i = i} {j = 6} few in
    omega arith
