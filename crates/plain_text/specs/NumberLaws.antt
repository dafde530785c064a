-- A number is read from its digits, and from nothing else.
use Rattle.std.specs.Prelude.{◌≡◌, ℕ, ◌+◌, ◌-◌, ◌*◌, ◌^◌, ◌<◌, ◌≤◌, zero, suc, Bool, true, false, not, List, [], ◌∷◌, length, Option, Some, None, refl}
use Rattle.std.proofs.Common.{cond, ltb, eqb, get_or, ap, ◌∙◌, subst, arith}
use Rattle.std.specs.Char.{is_ascii_digit}
use Rattle.std.specs.Str.{all_ascii_digits}
use Rattle.std.specs.Fmt.{decimal}
use Rattle.std.proofs.lemmas.Bool.{ltb-true, lt-ltb, and_from, and_parts, eqb-true, eq-eqb}
use Rattle.std.proofs.lemmas.Str.Parse.{IsNumeralModel, numerals_by_fold, tells_all_ascii_digits, FoldsDigits}
use Rattle.std.proofs.lemmas.Fmt.{decimal-digits_value, digits_decimal, digits_value-decimal, first_decimal, decimal_digit, decimal_nonempty}
use Rattle.plain_text.specs.Numbers.{number_from, begins_exactly, exact}

-- the number whose first digits make n and whose further ones are these, however large
abbrev pub value_from : ℕ → List ℕ → ℕ
value_from n [] = n
value_from n (b ∷ rest) = value_from (n * 10 + (b - 48)) rest

folds : FoldsDigits value_from
folds = record { empty = λ n. refl; more = λ n c cs range. refl }

own : IsNumeralModel (λ ds. all_ascii_digits ds ≡ true) (value_from 0)
own = numerals_by_fold (λ ds. all_ascii_digits ds ≡ true) tells_all_ascii_digits value_from folds

below_is : (bound n m : ℕ) (test : Bool) → ltb n bound ≡ test → cond test (Some n) None ≡ Some m
    → (n ≡ m) × (m < bound)
below_is bound n m true lt same = let e : n ≡ m = cc in (e, omega (arith, ltb-true n bound lt, e))
below_is bound n m false lt same = absurd cc

digit_is : (m : ℕ) (read : Option ℕ) (test : Bool) → cond test read None ≡ Some m
    → (test ≡ true) × (read ≡ Some m)
digit_is m read true same = (refl, same)
digit_is m read false same = absurd cc

takes_from : (bound n m : ℕ) (ds : List ℕ) → number_from bound n ds ≡ Some m
    → (all_ascii_digits ds ≡ true) × (value_from n ds ≡ m) × (m < bound)
unfolding number_from
takes_from bound n m [] same =
    let is = below_is bound n m (ltb n bound) refl same in (refl, is.0, is.1)
takes_from bound n m (b ∷ rest) same =
    let here = digit_is m (number_from bound (n * 10 + (b - 48)) rest) (is_ascii_digit b) same in
    let more = takes_from bound (n * 10 + (b - 48)) m rest here.1 in
    (and_from _ _ here.0 more.0, more.1, more.2)

value_grows : (n : ℕ) (rest : List ℕ) → n ≤ value_from n rest
value_grows n [] = omega arith
value_grows n (b ∷ rest) = let more = value_grows (n * 10 + (b - 48)) rest in omega (arith, more)

again_from : (bound n : ℕ) (ds : List ℕ) → all_ascii_digits ds ≡ true → value_from n ds < bound
    → number_from bound n ds ≡ Some (value_from n ds)
unfolding number_from
again_from bound n [] digits lt = let few = lt-ltb n bound lt in rw few refl
again_from bound n (b ∷ rest) digits lt =
    let both = and_parts (is_ascii_digit b) (all_ascii_digits rest) digits in
    rw (both.0) (again_from bound (n * 10 + (b - 48)) rest both.1 lt)

starts : (word : List ℕ) → begins_exactly word ≡ true
    → (0 < length word) × (get_or word 0 0 ≡ 48 → length word ≡ 1)
starts [] begins = absurd cc
starts (b ∷ []) begins = (omega arith, λ zero_first. refl)
starts (b ∷ c ∷ rest) begins = (
  omega arith,
  λ zero_first. absurd (
      let is : eqb b 48 ≡ true = eq-eqb b 48 zero_first in
      let other : not true ≡ true = rw is at begins in
      cc),
)

-- what is read is written so
pub exact_takes : (bound : ℕ) (word : List ℕ) (n : ℕ) → bound ≤ 2 ^ 64 → exact bound word ≡ Some n
    → (decimal n ≡ word) × (n < bound)
unfolding exact
exact_takes bound word n small same =
    let parts = digit_is n (number_from bound 0 word) (begins_exactly word) same in
    let begins = starts word parts.0 in
    let is = takes_from bound 0 n word parts.1 in
    let low : value_from 0 word < 2 ^ 64 = omega (arith, is.1, is.2, small) in (
      subst (λ (m : ℕ). decimal m ≡ word) is.1
          (decimal-digits_value own word is.0 begins.0 begins.1 low),
      is.2,
    )

other_first : (b : ℕ) (test : Bool) → eqb b 48 ≡ test → 48 < b → not test ≡ true
other_first b true is lt = absurd (omega (arith, eqb-true b 48 is))
other_first b false is lt = refl

begins_by : (word : List ℕ) → 0 < length word → 48 < get_or word 0 0 → begins_exactly word ≡ true
begins_by [] some first = absurd (omega arith)
begins_by (b ∷ []) some first = refl
begins_by (b ∷ c ∷ rest) some first = other_first b (eqb b 48) refl first

decimal_begins : (n : ℕ) → n < 2 ^ 64 → begins_exactly (decimal n) ≡ true
decimal_begins zero small = let one = decimal_digit 0 (omega arith) in rw one refl
decimal_begins (suc n) small =
    begins_by (decimal (suc n)) (decimal_nonempty (suc n) (omega arith))
    (first_decimal (suc n) (omega arith) (omega arith))

-- what is written is read again
pub exact_again : (bound n : ℕ) → bound ≤ 2 ^ 64 → n < bound → exact bound (decimal n) ≡ Some n
unfolding exact
exact_again bound n small less =
    let begins = decimal_begins n (omega arith) in
    let value : value_from 0 (decimal n) ≡ n = digits_value-decimal own n (omega arith) in
    rw begins (
    again_from bound 0 (decimal n) (digits_decimal own n (omega arith))
    (omega (arith, value, less))
    ∙ ap (λ (m : ℕ). Some m) value)
