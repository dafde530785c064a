-- Numbers in decimal digits, however large, and texts that are parted by one byte.
use Rattle.std.specs.Prelude.{◌≡◌, ℕ, zero, suc, ◌+◌, ◌/◌, ◌%◌, ◌^◌, ◌<◌, ◌≤◌, Bool, true, false, not, List, [], ◌∷◌, ◌++◌, length, refl}
use Rattle.std.proofs.Common.{eqb, ltb, cond, get_or, drop, ap, sym, ◌∙◌, subst, arith, inl, inr, ◌⊎◌}
use Rattle.std.proofs.Math.Nat.{pow-suc}
use Rattle.std.specs.List.{list_all}
use Rattle.std.specs.Fmt.{decimal, digits, digits_onto, digit_glyph}
use Rattle.std.specs.Str.Parse.{digits_value}
use Rattle.std.proofs.lemmas.Bool.{cond_both, eqb-true, ne_eqb, cases_lt, and_parts}
use Rattle.std.proofs.lemmas.Fmt.{decimal_is_IsNumeral_wide, length-decimal-le}
use Rattle.plain_text.specs.PartLaws.{Free}

-- ---- the digits of a number

-- the digits of n, before these
abbrev spell : ℕ → ℕ → List ℕ → List ℕ
spell k n acc = digits_onto k 10 false n acc

decimal_is : (n : ℕ) → decimal n ≡ spell 64 n []
unfolding digits
decimal_is n = refl

glyph_high : (d : ℕ) (t : Bool) → 48 ≤ cond t (48 + d) (87 + d)
glyph_high d true = omega arith
glyph_high d false = omega arith

pub apart : (separator b : ℕ) (test : Bool) → eqb b separator ≡ test → separator < b
    → test ≡ false
apart separator b true same low = absurd (omega (arith, eqb-true b separator same))
apart separator b false same low = refl

spell_free : (separator k n : ℕ) (acc : List ℕ) → separator < 48 → Free separator acc
    → Free separator (spell k n acc)
spell_free separator zero n acc low free = free
spell_free separator (suc k) n acc low free =
    let glyph : ℕ = digit_glyph false (n % 10) in
    let high : 48 ≤ digit_glyph false (n % 10) = glyph_high (n % 10) (ltb (n % 10) 10) in
    let here : eqb (digit_glyph false (n % 10)) separator ≡ false =
    apart separator (digit_glyph false (n % 10)) (eqb (digit_glyph false (n % 10)) separator) refl
    (omega (arith, low, high)) in
    cond_both (eqb (n / 10) 0) (digit_glyph false (n % 10) ∷ acc)
    (spell k (n / 10) (digit_glyph false (n % 10) ∷ acc))
    (λ (text : List ℕ). Free separator text) (λ _. (here, free))
    (λ _. spell_free separator k (n / 10) (digit_glyph false (n % 10) ∷ acc) low (here, free))

-- no number's digits have a byte below those of digits
pub number_free : (separator n : ℕ) → separator < 48 → Free separator (decimal n)
number_free separator n low =
    subst (λ (text : List ℕ). Free separator text) (sym (decimal_is n))
    (spell_free separator 64 n [] low tt)

pow_some : (k : ℕ) → 1 ≤ 10 ^ k
pow_some zero = omega arith
pow_some (suc k) = omega (arith, pow_some k, pow-suc 10 k)

-- so many digits of a large number
spell_long : (k n : ℕ) (acc : List ℕ) → 10 ^ k ≤ n → length (spell k n acc) ≡ k + length acc
spell_long zero n acc large = omega arith
spell_long (suc k) n acc large =
    let some = pow_some k in
    let step = pow-suc 10 k in
    let front : 10 ^ k ≤ n / 10 = omega (arith, large, step) in
    let more : eqb (n / 10) 0 ≡ false = ne_eqb (n / 10) 0 (λ e. omega (arith, e, front, some)) in
    ap (λ (t : Bool). length (cond t (digit_glyph false (n % 10) ∷ acc)
    (spell k (n / 10) (digit_glyph false (n % 10) ∷ acc)))) more
    ∙ spell_long k (n / 10) (digit_glyph false (n % 10) ∷ acc) front
    ∙ (omega arith)

-- a number with 64 digits or more has 64 of them told, and a small one at most 20
too_long : (n m : ℕ) → m < 2 ^ 64 → decimal n ≡ decimal m → 10 ^ 64 ≤ n → ⊥
too_long n m small same large =
    let long : length (decimal n) ≡ 64 =
    ap (λ (text : List ℕ). length text) (decimal_is n) ∙ spell_long 64 n [] large in
    let short : length (decimal m) ≤ 20 =
    length-decimal-le 20 m (omega arith) (omega arith) small in
    let alike : length (decimal n) ≡ length (decimal m) =
    ap (λ (text : List ℕ). length text) same in
    omega (arith, long, short, alike)

once_by : (n m : ℕ) → m < 2 ^ 64 → decimal n ≡ decimal m → (n < 10 ^ 64) ⊎ (10 ^ 64 ≤ n) → n ≡ m
once_by n m small same (inl less) =
    sym (decimal_is_IsNumeral_wide n less).1
    ∙ ap (λ (text : List ℕ). digits_value 10 text) same
    ∙ (decimal_is_IsNumeral_wide m (omega arith)).1
once_by n m small same (inr large) = absurd (too_long n m small same large)

-- digits of a small number are those of no other one
pub numbers_once : (n m : ℕ) → m < 2 ^ 64 → decimal n ≡ decimal m → n ≡ m
numbers_once n m small same = once_by n m small same (cases_lt n (10 ^ 64))

-- ---- texts

not_true : (test : Bool) → not test ≡ true → test ≡ false
not_true true other = absurd cc
not_true false other = refl

-- a fixed text has its bytes alone
pub text_free : (separator : ℕ) (text : List ℕ)
    → list_all (λ b. not (eqb b separator)) text ≡ true → Free separator text
text_free separator [] all = tt
text_free separator (b ∷ rest) all =
    let both = and_parts (not (eqb b separator)) (list_all (λ c. not (eqb c separator)) rest) all in
    (not_true (eqb b separator) both.0, text_free separator rest both.1)

itself : (n : ℕ) → eqb n n ≡ true
itself n = search arith

first_alike : (a b : ℕ) (x y : List ℕ) → a ∷ x ≡ b ∷ y → a ≡ b
first_alike a b x y same = ap (λ (text : List ℕ). get_or text 0 0) same

rest_alike : (a b : ℕ) (x y : List ℕ) → a ∷ x ≡ b ∷ y → x ≡ y
rest_alike a b x y same = ap (λ (text : List ℕ). drop 1 text) same

no_separator : (separator b : ℕ) → eqb b separator ≡ false → b ≡ separator → ⊥
no_separator separator b other same =
    let is : eqb separator separator ≡ false =
    subst (λ (c : ℕ). eqb c separator ≡ false) same other in
    let self = itself separator in
    let wrong : true ≡ false = sym self ∙ is in
    absurd (let no : ⊥ = cc in no)

-- what stands before the first of these bytes, and what behind it
pub parted : (separator : ℕ) (a b x y : List ℕ) → Free separator a → Free separator b
    → a ++ separator ∷ x ≡ b ++ separator ∷ y → (a ≡ b) × (x ≡ y)
parted separator [] [] x y of_a of_b same = (refl, rest_alike separator separator x y same)
parted separator [] (d ∷ b) x y of_a of_b same =
    absurd (no_separator separator d of_b.0
    (sym (first_alike separator d x (b ++ separator ∷ y) same)))
parted separator (c ∷ a) [] x y of_a of_b same =
    absurd (no_separator separator c of_a.0
    (first_alike c separator (a ++ separator ∷ x) y same))
parted separator (c ∷ a) (d ∷ b) x y of_a of_b same =
    let one : c ≡ d = first_alike c d (a ++ separator ∷ x) (b ++ separator ∷ y) same in
    let others = parted separator a b x y of_a.1 of_b.1
    (rest_alike c d (a ++ separator ∷ x) (b ++ separator ∷ y) same) in (
      ap (λ (n : ℕ). n ∷ a) one ∙ ap (λ (text : List ℕ). d ∷ text) others.0,
      others.1,
    )

-- the same of a number, of which the other one is small
pub numbers_parted : (separator n m : ℕ) (x y : List ℕ) → separator < 48 → m < 2 ^ 64
    → decimal n ++ separator ∷ x ≡ decimal m ++ separator ∷ y → (n ≡ m) × (x ≡ y)
numbers_parted separator n m x y low small same =
    let both = parted separator (decimal n) (decimal m) x y (number_free separator n low)
    (number_free separator m low) same in
    (numbers_once n m small both.0, both.1)
