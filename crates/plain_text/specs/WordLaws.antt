-- Words that are joined by spaces are parted again where none of them has a space.
use Rattle.std.specs.Prelude.{◌≡◌, ℕ, ◌<◌, ◌≤◌, Bool, true, false, List, [], ◌∷◌, ◌++◌, length, map, refl}
use Rattle.std.proofs.Common.{eqb, leb, ap, ◌∙◌, arith}
use Rattle.std.specs.List.{AllByRecursion, join_with_byte, list_all, flat_map}
use Rattle.std.proofs.lemmas.Bool.{and_parts, eqb-true, leb-true}
use Rattle.plain_text.specs.Parts.{words, lines}
use Rattle.plain_text.specs.PartLaws.{Free, joined_parts}

abbrev pub AllFree : ℕ → List (List ℕ) → Type 0
AllFree separator ws = AllByRecursion (Free separator) ws

apart : (separator b : ℕ) (test : Bool) → eqb b separator ≡ test → separator < b → test ≡ false
apart separator b true same low = absurd (omega (arith, eqb-true b separator same))
apart separator b false same low = refl

-- letters and digits are no separators
pub letters_free : (separator : ℕ) (text : List ℕ) → separator < 48
    → list_all (λ b. leb 48 b) text ≡ true → Free separator text
letters_free separator [] low all = tt
letters_free separator (b ∷ rest) low all =
    let both = and_parts (leb 48 b) (list_all (λ c. leb 48 c) rest) all in (
      apart separator b (eqb b separator) refl (omega (arith, leb-true 48 b both.0)),
      letters_free separator rest low both.1,
    )

pub words_back : (w : List ℕ) (ws : List (List ℕ)) → AllFree 32 (w ∷ ws)
    → words (join_with_byte 32 (w ∷ ws)) ≡ w ∷ ws
words_back w ws free = joined_parts 32 w ws free.0 free.1
