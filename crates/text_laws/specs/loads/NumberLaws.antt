-- The numbers of a load are words that spell them.
use Rattle.std.specs.Prelude.{◌≡◌, ℕ, ◌+◌, ◌-◌, ◌*◌, ◌<◌, ◌≤◌, true, List, [], ◌∷◌, length, Some, Ok, refl}
use Rattle.std.proofs.Common.{leb, ap, arith}
use Rattle.std.specs.Char.{is_ascii_digit}
use Rattle.std.specs.Str.{all_ascii_digits}
use Rattle.std.specs.Fmt.{decimal}
use Rattle.std.specs.List.{list_all}
use Rattle.std.proofs.lemmas.Bool.{and_parts, and_from, leb-true, le-leb}
use Rattle.std.proofs.lemmas.Str.Parse.{IsNumeralModel, numerals_by_fold, tells_all_ascii_digits, FoldsDigits}
use Rattle.std.proofs.lemmas.Fmt.{digits_decimal, digits_value-decimal, decimal_nonempty, length-decimal-le}
use Rattle.plain_text.specs.NumberLaws.{value_from}
use Rattle.script.specs.Numbers.{loose, digits_from, is_digit}
use Rattle.text_laws.specs.loads.WordLaws.{is_inner, is_plain_word}

folds : FoldsDigits value_from
folds = record { empty = λ n. refl; more = λ n c cs range. refl }

own : IsNumeralModel (λ ds. all_ascii_digits ds ≡ true) (value_from 0)
own = numerals_by_fold (λ ds. all_ascii_digits ds ≡ true) tells_all_ascii_digits value_from folds

digits_read : (n m : ℕ) (ds : List ℕ) → all_ascii_digits ds ≡ true → n ≡ m
    → digits_from n ds ≡ Ok (value_from m ds)
unfolding digits_from
digits_read n m [] digits same = ap (λ (k : ℕ). Ok k) same
digits_read n m (b ∷ rest) digits same =
    let both = and_parts (is_ascii_digit b) (all_ascii_digits rest) digits in
    let here : is_digit b ≡ true = both.0 in
    let more =
    digits_read (10 * n + (b - 48)) (m * 10 + (b - 48)) rest both.1 (omega (arith, same)) in
    rw here more

inner_of : (b : ℕ) → is_ascii_digit b ≡ true → is_inner b ≡ true
inner_of b digit =
    let parts = and_parts (leb 48 b) (leb b 57) digit in
    let low = leb-true 48 b parts.0 in
    let high = leb-true b 57 parts.1 in
    and_from _ _ (le-leb 33 b (omega (arith, low))) (le-leb b 126 (omega (arith, high)))

all_inner : (ds : List ℕ) → all_ascii_digits ds ≡ true → list_all is_inner ds ≡ true
all_inner [] digits = refl
all_inner (b ∷ rest) digits =
    let both = and_parts (is_ascii_digit b) (all_ascii_digits rest) digits in
    and_from _ _ (inner_of b both.0) (all_inner rest both.1)

a_word : (ds : List ℕ) → 0 < length ds → list_all is_inner ds ≡ true → is_plain_word ds ≡ true
a_word [] some all = absurd (omega (arith, some))
a_word (b ∷ rest) some all = all

pub number_word : (n : ℕ) → n ≤ 256 → is_plain_word (decimal n) ≡ true
number_word n small =
    a_word (decimal n) (decimal_nonempty n (omega (arith, small)))
    (all_inner (decimal n) (digits_decimal own n (omega (arith, small))))

pub number_read : (n : ℕ) → n ≤ 256 → loose (decimal n) ≡ Some n
number_read n small =
    let some : leb 1 (length (decimal n)) ≡ true =
    le-leb 1 (length (decimal n))
    (let l = decimal_nonempty n (omega (arith, small)) in omega (arith, l)) in
    let few : leb (length (decimal n)) 9 ≡ true =
    le-leb (length (decimal n)) 9
    (let l = length-decimal-le 3 n (omega arith) (omega (arith, small))
    (omega (arith, small)) in omega (arith, l)) in
    let read : digits_from 0 (decimal n) ≡ Ok (value_from 0 (decimal n)) =
    digits_read 0 0 (decimal n) (digits_decimal own n (omega (arith, small))) refl in
    let value : value_from 0 (decimal n) ≡ n = digits_value-decimal own n (omega (arith, small)) in
    rw (some, few, read, value) refl
