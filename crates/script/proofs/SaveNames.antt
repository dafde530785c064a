-- The names of files.
use Rattle.std.proofs.Common.{◌≡◌, ℕ, zero, suc, ◌<◌, ◌≤◌, inl, inr, true, ◌&&◌, List, [], ◌∷◌, ◌++◌, length, take, drop, replicate, refl, sym, ap, ◌∙◌, arith}
use Rattle.std.specs.Prelude.{nat_le, ◌==◌, ◌||◌}
use Rattle.std.specs.List.{list_all}
use Rattle.std.specs.Str.{IsUtf8, IsAscii}
use Rattle.std.proofs.lemmas.Bool.{le-leb, leb-true, eqb-true, and_parts, or_cases}
use Rattle.std.proofs.lemmas.List.{take_all, take-take, take-replicate}
use Rattle.std.proofs.lemmas.Str.{IsUtf8-from_ascii}
use Rattle.script.specs.declared.commands.SaveName.{SaveName}
use Rattle.script.specs.Commands.{name_bytes, save_name}
use Rattle.script.specs.Numbers.{is_digit}
use Rattle.script.specs.Placing.{is_letter, is_name_byte, begins_name, is_save_name}

-- a word with 0 behind it, up to so many bytes
padded : (n m : ℕ) (word : List ℕ) → n ≤ m
    → take n word ++ drop (length (take n word)) (replicate n 0) ≡ take n (word ++ replicate m 0)
padded zero m word le = refl
padded (suc n) m [] le = sym (take-replicate (suc n) m 0 le)
padded (suc n) m (b ∷ word) le =
    ap (λ (rest : List ℕ). b ∷ rest) (padded n m word (omega (arith, le)))

pub padded_name : (word first bytes : List ℕ) → first ≡ take 64 word
    → bytes ≡ first ++ drop (length first) (replicate 64 0)
    → record { bytes = bytes; len = length word } ≡ save_name word
padded_name word first bytes of_word is =
    ap (λ (b : List ℕ). record { bytes = b; len = length word })
    (is ∙ ap (λ (f : List ℕ). f ++ drop (length f) (replicate 64 0)) of_word
    ∙ padded 64 64 word (omega arith))

pub short_word : (word : List ℕ) → length word ≤ 64 → word ≡ take 64 word
short_word word few = sym (take_all 64 word few)

-- what a name's tests find
pub is_name : (name : SaveName) (first : List ℕ) → first ≡ take name.len name.bytes → name.len ≤ 64
    → begins_name first ≡ true → list_all is_name_byte first ≡ true → is_save_name name ≡ true
is_name name first is few begins all =
    rw (le-leb name.len 64 few, ← is, begins, all) refl

-- ---- a name as a text

-- a name of at most 64 bytes has all of them
pub all_bytes : (name : SaveName) → is_save_name name ≡ true
    → take name.len name.bytes ≡ name_bytes name
all_bytes name is =
    let few = leb-true name.len 64 (and_parts (nat_le name.len 64) _ is).0 in
    sym (take-take name.len 64 name.bytes (omega (arith, few)))

low_digit : (b : ℕ) → is_digit b ≡ true → b < 128
low_digit b is = let high = leb-true b 57 (and_parts (nat_le 48 b) _ is).1 in omega (arith, high)

low_letter : (b : ℕ) → is_letter b ≡ true → b < 128
low_letter b is = elim (or_cases (nat_le 65 b && nat_le b 90) _ is) [
  | inl upper ↦ let high = leb-true b 90 (and_parts (nat_le 65 b) _ upper).1 in omega (arith, high)
  | inr lower ↦ let high = leb-true b 122 (and_parts (nat_le 97 b) _ lower).1 in omega (arith, high)
]

low_mark : (b : ℕ) → (b == 46 || (b == 95 || b == 45)) ≡ true → b < 128
low_mark b is = elim (or_cases (b == 46) _ is) [
  | inl dot ↦ let same = eqb-true b 46 dot in omega (arith, same)
  | inr other ↦ elim (or_cases (b == 95) _ other) [
    | inl low ↦ let same = eqb-true b 95 low in omega (arith, same)
    | inr dash ↦ let same = eqb-true b 45 dash in omega (arith, same)
  ]
]

low_byte : (b : ℕ) → is_name_byte b ≡ true → b < 128
low_byte b is = elim (or_cases (is_letter b) _ is) [
  | inl letter ↦ low_letter b letter
  | inr other ↦ elim (or_cases (is_digit b) _ other) [
    | inl digit ↦ low_digit b digit
    | inr mark ↦ low_mark b mark
  ]
]

low_bytes : (bytes : List ℕ) → list_all is_name_byte bytes ≡ true → IsAscii bytes
low_bytes [] all i = omega arith
low_bytes (b ∷ bytes) all zero = low_byte b (and_parts (is_name_byte b) _ all).0
low_bytes (b ∷ bytes) all (suc i) = low_bytes bytes (and_parts (is_name_byte b) _ all).1 i

-- a name is ASCII, and so a text
pub is_utf8 : (name : SaveName) (bytes : List ℕ) → is_save_name name ≡ true
    → bytes ≡ take name.len name.bytes → IsUtf8 bytes
is_utf8 name bytes is of_name =
    let parts = and_parts (nat_le name.len 64) _ is in
    let all = (and_parts (begins_name (take name.len name.bytes)) _ parts.1).1 in
    IsUtf8-from_ascii bytes (low_bytes bytes
    (ap (list_all is_name_byte) of_name ∙ all))
