-- A number is read digit by digit.
use Rattle.std.proofs.Common.{◌≡◌, ℕ, suc, ◌+◌, ◌-◌, ◌*◌, ◌<◌, ◌≤◌, Bool, true, false, cond, ltb, List, [], ◌∷◌, length, get_or, drop, Option, Some, None, refl, ◌∙◌, arith, drop-cons, add-one}
use Rattle.std.specs.Char.{is_ascii_digit}
use Rattle.std.proofs.lemmas.Bool.{ltb-true, lt-ltb}
use Rattle.std.proofs.lemmas.List.{drop_all}
use Rattle.plain_text.specs.Numbers.{below, number_from}

not_below : (bound n : ℕ) (test : Bool) → ltb n bound ≡ test → bound ≤ n
    → cond test (Some n) None ≡ None
not_below bound n true lt le = absurd (omega (arith, ltb-true n bound lt))
not_below bound n false lt le = refl

none_by : (read : Option ℕ) (test : Bool) → read ≡ None → cond test read None ≡ None
none_by read true none = none
none_by read false none = refl

-- what is too large stays so
large : (bound n : ℕ) (rest : List ℕ) → bound ≤ n → number_from bound n rest ≡ None
unfolding number_from
large bound n [] le = not_below bound n (ltb n bound) refl le
large bound n (b ∷ rest) le =
    none_by (number_from bound (n * 10 + (b - 48)) rest) (is_ascii_digit b)
    (large bound (n * 10 + (b - 48)) rest (omega arith))

number-cons : (bound n b : ℕ) (rest : List ℕ)
    → number_from bound n (b ∷ rest) ≡ cond (is_ascii_digit b)
    (number_from bound (n * 10 + (b - 48)) rest) None
unfolding number_from
number-cons bound n b rest = refl

no_digits : (bound n : ℕ) → number_from bound n [] ≡ below bound n
unfolding number_from
no_digits bound n = refl

-- a digit more
pub number_step : (bound n i : ℕ) (word : List ℕ) → i < length word
    → is_ascii_digit (get_or word i 0) ≡ true
    → number_from bound n (drop i word) ≡ number_from bound (n * 10 + (get_or word i 0 - 48))
    (drop (i + 1) word)
number_step bound n i word less digit =
    rw (drop-cons word i 0, add-one)
    (number-cons bound n (get_or word i 0) (drop (suc i) word) ∙ rw digit refl)

-- a byte that is no digit
pub number_stops : (bound n i : ℕ) (word : List ℕ) → i < length word
    → is_ascii_digit (get_or word i 0) ≡ false → number_from bound n (drop i word) ≡ None
number_stops bound n i word less other =
    rw (drop-cons word i 0)
    (number-cons bound n (get_or word i 0) (drop (suc i) word) ∙ rw other refl)

-- a digit that makes it too large
pub number_large : (bound n i : ℕ) (word : List ℕ) → i < length word
    → is_ascii_digit (get_or word i 0) ≡ true → bound ≤ n * 10 + (get_or word i 0 - 48)
    → number_from bound n (drop i word) ≡ None
number_large bound n i word less digit le =
    number_step bound n i word less digit
    ∙ large bound (n * 10 + (get_or word i 0 - 48)) (drop (i + 1) word) le

-- after the last digit
pub number_ends : (bound n i : ℕ) (word : List ℕ) → length word ≤ i → n < bound
    → number_from bound n (drop i word) ≡ Some n
number_ends bound n i word far lt =
    let few = lt-ltb n bound lt in rw (drop_all i word far) (no_digits bound n ∙ rw few refl)
