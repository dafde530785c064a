-- Words that are joined by spaces, and lines that end with a newline, are parted again.
use Rattle.std.proofs.Common.{◌≡◌, ℕ, ◌<◌, Bool, true, false, List, [], ◌∷◌, ◌++◌, refl, ap, ◌∙◌, arith, eqb, leb}
use Rattle.std.specs.Prelude.{◌&&◌, ◌||◌}
use Rattle.std.specs.List.{list_all}
use Rattle.std.proofs.lemmas.Bool.{and_parts, and_from, leb-true, le-leb, eqb-true}
use Rattle.std.proofs.lemmas.List.Folds.{list_all-append}
use Rattle.plain_text.specs.Parts.{line_of}
use Rattle.script.specs.Lines.{lines_of, without_return, is_plain, is_text, is_blank, words_of}

-- neither a blank nor what no text has
abbrev pub is_inner : ℕ → Bool
is_inner b = leb 33 b && leb b 126

abbrev pub is_plain_word : List ℕ → Bool
is_plain_word [] = false
is_plain_word (b ∷ rest) = list_all is_inner (b ∷ rest)

differs : (b c : ℕ) (test : Bool) → eqb b c ≡ test → c < b → test ≡ false
differs b c true same low = absurd (omega (arith, eqb-true b c same))
differs b c false same low = refl

not_blank : (b : ℕ) → is_inner b ≡ true → is_blank b ≡ false
not_blank b inner =
    let low = leb-true 33 b (and_parts _ _ inner).0 in
    let space : eqb b 32 ≡ false = differs b 32 (eqb b 32) refl (omega (arith, low)) in
    let tab : eqb b 9 ≡ false = differs b 9 (eqb b 9) refl (omega (arith, low)) in
    rw (space, tab) refl

word_then : (w rest : List ℕ) → is_plain_word w ≡ true
    → words_of (w ++ 32 ∷ rest) ≡ w ∷ words_of rest
unfolding words_of
word_then [] rest all = absurd cc
word_then (b ∷ []) rest all = let here = not_blank b (and_parts _ _ all).0 in rw here refl
word_then (b ∷ c ∷ w) rest all =
    let both = and_parts (is_inner b) (list_all is_inner (c ∷ w)) all in
    let here = not_blank b both.0 in
    let next = not_blank c (and_parts (is_inner c) (list_all is_inner w) both.1).0 in
    let more = word_then (c ∷ w) rest both.1 in
    rw (more, here, next) refl

word_last : (w : List ℕ) → is_plain_word w ≡ true → words_of w ≡ w ∷ []
unfolding words_of
word_last [] all = absurd cc
word_last (b ∷ []) all = let here = not_blank b (and_parts _ _ all).0 in rw here refl
word_last (b ∷ c ∷ w) all =
    let both = and_parts (is_inner b) (list_all is_inner (c ∷ w)) all in
    let here = not_blank b both.0 in
    let next = not_blank c (and_parts (is_inner c) (list_all is_inner w) both.1).0 in
    let more = word_last (c ∷ w) both.1 in
    rw (more, here, next) refl

pub words_parted : (ws : List (List ℕ)) → list_all is_plain_word ws ≡ true
    → words_of (line_of ws) ≡ ws
unfolding words_of
words_parted [] all = refl
words_parted (w ∷ []) all = word_last w (and_parts _ _ all).0
words_parted (w ∷ v ∷ ws) all =
    let both = and_parts (is_plain_word w) (list_all is_plain_word (v ∷ ws)) all in
    word_then w (line_of (v ∷ ws)) both.0
    ∙ ap (λ (vs : List (List ℕ)). w ∷ vs) (words_parted (v ∷ ws) both.1)

plain_of : (b : ℕ) (tab : Bool) → eqb b 9 ≡ tab → is_inner b ≡ true
    → (tab || (leb 32 b && leb b 126)) ≡ true
plain_of b true is inner = refl
plain_of b false is inner =
    let parts = and_parts (leb 33 b) (leb b 126) inner in
    let low : leb 32 b ≡ true = le-leb 32 b (let l = leb-true 33 b parts.0 in omega (arith, l)) in
    rw (low, parts.1) refl

all_plain : (w : List ℕ) → list_all is_inner w ≡ true → list_all is_plain w ≡ true
all_plain [] all = refl
all_plain (b ∷ rest) all =
    let both = and_parts (is_inner b) (list_all is_inner rest) all in
    and_from _ _ (plain_of b (eqb b 9) refl both.0) (all_plain rest both.1)

word_plain : (w : List ℕ) → is_plain_word w ≡ true → is_text w ≡ true
word_plain [] all = absurd cc
word_plain (b ∷ rest) all = all_plain (b ∷ rest) all

pub line_is_text : (ws : List (List ℕ)) → list_all is_plain_word ws ≡ true
    → is_text (line_of ws) ≡ true
line_is_text [] all = refl
line_is_text (w ∷ []) all = word_plain w (and_parts _ _ all).0
line_is_text (w ∷ v ∷ ws) all =
    let both = and_parts (is_plain_word w) (list_all is_plain_word (v ∷ ws)) all in
    let here = word_plain w both.0 in
    let more = line_is_text (v ∷ ws) both.1 in
    list_all-append is_plain w (32 ∷ line_of (v ∷ ws)) ∙ and_from _ _ here more

-- a byte of a text is neither a return nor a newline
not_plain : (b c : ℕ) (test : Bool) → is_plain c ≡ false → eqb b c ≡ test → is_plain b ≡ true
    → test ≡ false
not_plain b c true other same plain = absurd (let is : b ≡ c = eqb-true b c same in cc)
not_plain b c false other same plain = refl

pub no_return : (line : List ℕ) → is_text line ≡ true → without_return line ≡ line
unfolding without_return
no_return [] all = refl
no_return (b ∷ []) all =
    let here = not_plain b 13 (eqb b 13) refl refl (and_parts _ _ all).0 in rw here refl
no_return (b ∷ c ∷ rest) all =
    let both = and_parts (is_plain b) (list_all is_plain (c ∷ rest)) all in
    ap (λ (more : List ℕ). b ∷ more) (no_return (c ∷ rest) both.1)

pub lines_parted : (line rest : List ℕ) → is_text line ≡ true
    → lines_of (line ++ 10 ∷ rest) ≡ line ∷ lines_of rest
unfolding lines_of
lines_parted [] rest all = refl
lines_parted (b ∷ more) rest all =
    let both = and_parts (is_plain b) (list_all is_plain more) all in
    let here : eqb b 10 ≡ false = not_plain b 10 (eqb b 10) refl refl both.0 in
    let behind = lines_parted more rest both.1 in
    rw (here, behind) refl
