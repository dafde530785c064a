-- The parts that begin words.
use Rattle.std.proofs.Common.{◌≡◌, ℕ, ◌+◌, ◌==◌, true, false, List, [], ◌∷◌, length, drop, refl, ap, arith, ◌∙◌}
use Rattle.std.specs.List.{position_or_len, after_first}
use Rattle.std.proofs.lemmas.List.{drop_all}
use Rattle.requests.specs.command_line.Parts.{NoPart, is_option, option_with, word_alone, parts_of, behind_equals}

pub not_option : (word : List ℕ) (others : List (List ℕ)) → is_option word ≡ false
    → parts_of (word ∷ others) ≡ word_alone word ∷ parts_of others
not_option word [] none = rw none refl
not_option word (next ∷ others) none = rw none refl

pub option_alone : (word : List ℕ) → is_option word ≡ true → parts_of (word ∷ []) ≡ NoPart ∷ []
option_alone word is = rw is refl

pub option_then : (word next : List ℕ) (others : List (List ℕ)) → is_option word ≡ true
    → parts_of (word ∷ next ∷ others) ≡ option_with word next ∷ parts_of others
option_then word next others is = rw is refl

-- a word without `=`
pub split_joined : (option word : List ℕ) → position_or_len (λ b. b == 61) word ≡ length word
    → behind_equals option (after_first (λ b. b == 61) word) ≡ NoPart
split_joined option word none =
    ap (behind_equals option)
    (ap (λ n. drop (n + 1) word) none ∙ drop_all (length word + 1) word (omega arith))
