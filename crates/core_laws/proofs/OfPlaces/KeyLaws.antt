-- A key and its words tell each other.
use Rattle.std.proofs.Common.{◌≡◌, ℕ, zero, suc, ◌+◌, ◌-◌, ◌*◌, ◌/◌, ◌%◌, ◌^◌, ◌<◌, ◌≤◌, Some, None, Option, List, get_or, sym, ◌∙◌, ap, subst, refl, arith}
use Rattle.std.proofs.Math.Nat.{mod-add-div, mod-lt, div-add-mod}
use Rattle.std.proofs.lemmas.Nat.{div-mul-add, mod-mul-add}
use Rattle.std.proofs.lemmas.List.{ext_get_or}
use Rattle.node_words.specs.declared.shapes.names.Name.{Name}
use Rattle.node_words.specs.declared.keys.Key.{Key}
use Rattle.node_words.specs.declared.keys.Key.TheVariants.{Leaf, Node}
use Rattle.node_words.specs.Held.{name_in}
use Rattle.core_laws.specs.places.Words.{word_of_child, IsChildAt}
use Rattle.core_laws.specs.places.WordIds.{key_words}
use Rattle.core_laws.specs.places.KeyWords.{child_of_word, half, children_of_words, key_of_words, key_word, FitsHalf, IsKeyAt}
use Rattle.core_laws.proofs.OfPlaces.Children.{one_child}

-- a word is that of the child that it stands for
pub word_back : (level word : ℕ) → word_of_child (child_of_word level word) ≡ word
word_back level zero = refl
word_back level (suc word) = let e = div-add-mod word 256 in omega (arith, e)

halves : (level word : ℕ)
    → word_of_child (child_of_word level (half 0 word)) + 2 ^ 32 * word_of_child
    (child_of_word level (half 1 word)) ≡ word
halves level word =
    let low = word_back level (half 0 word) in let high = word_back level
    (half 1 word) in let e = mod-add-div word (2 ^ 32) in omega (arith, low, high, e)

-- a word of an entry is that of its key
pub key_back : (level : ℕ) (words : ℕ → ℕ) (i : ℕ) → i < key_words level
    → key_word (key_of_words level words) i ≡ words i
key_back zero words zero lt = refl
key_back zero words (suc i) lt = absurd (omega arith)
key_back (suc level) words zero lt = halves level (words 0)
key_back (suc level) words (suc zero) lt = halves level (words 1)
key_back (suc level) words (suc (suc zero)) lt = halves level (words 2)
key_back (suc level) words (suc (suc (suc zero))) lt = halves level (words 3)
key_back (suc level) words (suc (suc (suc (suc i)))) lt = absurd (omega arith)

child_at_level : (level word : ℕ) → IsChildAt level (child_of_word level word)
child_at_level level zero = tt
child_at_level level (suc word) = (refl, mod-lt word (omega arith))

child_back : (level word : ℕ) (o : Option Name) → IsChildAt level o → word ≡ word_of_child o
    → child_of_word level word ≡ o
child_back level word o is e =
    one_child level (child_of_word level word) o (child_at_level level word) is
    (word_back level word ∙ e)

pub low_half : (word a b : ℕ) → word ≡ a + 2 ^ 32 * b → a < 2 ^ 32 → half 0 word ≡ a
low_half word a b e lt =
    ap (λ (x : ℕ). x % 2 ^ 32)
    (let y : word ≡ b * 2 ^ 32 + a = omega (arith, e) in y) ∙ mod-mul-add b (2 ^ 32) a lt

pub high_half : (word a b : ℕ) → word ≡ a + 2 ^ 32 * b → a < 2 ^ 32 → half 1 word ≡ b
high_half word a b e lt =
    ap (λ (x : ℕ). x / 2 ^ 32)
    (let y : word ≡ b * 2 ^ 32 + a = omega (arith, e) in y) ∙ div-mul-add b (2 ^ 32) a lt

low_child : (level word : ℕ) (a b : Option Name) → FitsHalf level a
    → word ≡ word_of_child a + 2 ^ 32 * word_of_child b → child_of_word level (half 0 word) ≡ a
low_child level word a b fits e =
    child_back level (half 0 word) a fits.is_child (low_half word _ (word_of_child b) e fits.low)

high_child : (level word : ℕ) (a b : Option Name) → FitsHalf level a → FitsHalf level b
    → word ≡ word_of_child a + 2 ^ 32 * word_of_child b → child_of_word level (half 1 word) ≡ b
high_child level word a b fits fits' e =
    child_back level (half 1 word) b fits'.is_child (high_half word (word_of_child a) _ e fits.low)

eight_children : (level : ℕ) (children : List (Option Name)) (words : ℕ → ℕ)
    → ((k : ℕ) → k < 8 → FitsHalf level (name_in children k))
    → ((i : ℕ) → i < 4 → words i ≡ key_word (Node children) i) → (k : ℕ) → k < 8
    → get_or (children_of_words level words) k None ≡ get_or children k None
eight_children level cs words fits same zero lt =
    low_child level (words 0) _ _ (fits 0 (omega arith)) (same 0 (omega arith))
eight_children level cs words fits same (suc zero) lt =
    high_child level (words 0) _ _ (fits 0 (omega arith)) (fits 1 (omega arith))
    (same 0 (omega arith))
eight_children level cs words fits same (suc (suc zero)) lt =
    low_child level (words 1) _ _ (fits 2 (omega arith)) (same 1 (omega arith))
eight_children level cs words fits same (suc (suc (suc zero))) lt =
    high_child level (words 1) _ _ (fits 2 (omega arith)) (fits 3 (omega arith))
    (same 1 (omega arith))
eight_children level cs words fits same (suc (suc (suc (suc zero)))) lt =
    low_child level (words 2) _ _ (fits 4 (omega arith)) (same 2 (omega arith))
eight_children level cs words fits same (suc (suc (suc (suc (suc zero))))) lt =
    high_child level (words 2) _ _ (fits 4 (omega arith)) (fits 5 (omega arith))
    (same 2 (omega arith))
eight_children level cs words fits same (suc (suc (suc (suc (suc (suc zero)))))) lt =
    low_child level (words 3) _ _ (fits 6 (omega arith)) (same 3 (omega arith))
eight_children level cs words fits same (suc (suc (suc (suc (suc (suc (suc zero))))))) lt =
    high_child level (words 3) _ _ (fits 6 (omega arith)) (fits 7 (omega arith))
    (same 3 (omega arith))
eight_children level cs words fits same (suc (suc (suc (suc (suc (suc (suc (suc k)))))))) lt =
    absurd (omega arith)

-- a key is read from its words
pub words_key : (level : ℕ) (key : Key) (words : ℕ → ℕ) → IsKeyAt level key
    → ((i : ℕ) → i < key_words level → words i ≡ key_word key i) → key_of_words level words ≡ key
words_key zero (Leaf bits) words fits same = ap Leaf (same 0 (omega arith))
words_key zero (Node children) words fits same = absurd (omega (arith, fits.above))
words_key (suc level) (Leaf bits) words fits same = absurd (omega (arith, fits))
words_key (suc level) (Node children) words fits same =
    let down : suc level - 1 ≡ level = omega arith in
    ap Node (ext_get_or None _ children (sym fits.eight)
    (eight_children level children words
    (λ k lt. subst (λ (l : ℕ). FitsHalf l (name_in children k)) down
    (fits.each k lt)) same))

-- the child of a word that isn't 0
pub child_read : (level word : ℕ) → 1 ≤ word
    → child_of_word level word ≡ Some
    (record { level = level; bucket = (word - 1) / 256; slot = (word - 1) % 256 })
child_read level zero some = absurd (omega arith)
child_read level (suc at) some = let down : suc at - 1 ≡ at = omega arith in rw down refl
