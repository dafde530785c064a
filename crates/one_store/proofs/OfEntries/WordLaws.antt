-- The words of keys say the keys, and one key has one row of words.
use Rattle.std.proofs.Common.{◌≡◌, ℕ, zero, suc, ◌+◌, ◌*◌, ◌^◌, ◌<◌, ◌≤◌, Option, List, ap, sym, ◌∙◌, arith}
use Rattle.node_words.specs.declared.shapes.names.Name.{Name}
use Rattle.node_words.specs.declared.keys.Key.{Key}
use Rattle.node_words.specs.declared.keys.Key.TheVariants.{Leaf, Node}
use Rattle.node_words.specs.Held.{name_in}
use Rattle.core_laws.specs.places.Words.{word_of_child}
use Rattle.core_laws.specs.places.WordIds.{key_words}
use Rattle.core_laws.specs.places.KeyWords.{key_word, IsKeyAt}
use Rattle.core_laws.proofs.OfPlaces.KeyLaws.{key_back, words_key}
use Rattle.one_store.specs.declared.entries.key_words.Pairs.{Pairs}
use Rattle.one_store.specs.entries.Coding.{key_from, pair_number}

pub leaf_words : (level bits : ℕ) (pairs : Pairs) → level ≡ 0
    → key_from level bits pairs ≡ Leaf bits
leaf_words level bits pairs e = ap (λ (l : ℕ). key_from l bits pairs) e

-- what a word of two children is
abbrev pub IsPair : ℕ → Option Name → Option Name → Type 0
IsPair word a b = word ≡ word_of_child a + 2 ^ 32 * word_of_child b

made_pairs : ℕ → ℕ → ℕ → ℕ → Pairs
made_pairs a b c d = record { first = a; second = b; third = c; fourth = d }

four_words : (level first second third fourth : ℕ) (cs : List (Option Name))
    → IsPair first (name_in cs 0) (name_in cs 1) → IsPair second (name_in cs 2) (name_in cs 3)
    → IsPair third (name_in cs 4) (name_in cs 5) → IsPair fourth (name_in cs 6) (name_in cs 7)
    → (i : ℕ) → i < key_words (suc level)
    → pair_number
    (record { first = first; second = second; third = third; fourth = fourth }) i ≡ key_word
    (Node cs) i
four_words level first second third fourth cs p q r s zero lt = p
four_words level first second third fourth cs p q r s (suc zero) lt = q
four_words level first second third fourth cs p q r s (suc (suc zero)) lt = r
four_words level first second third fourth cs p q r s (suc (suc (suc zero))) lt = s
four_words level first second third fourth cs p q r s (suc (suc (suc (suc i)))) lt =
    absurd (omega arith)

pub node_words : (level bits first second third fourth : ℕ) (cs : List (Option Name))
    → IsKeyAt level (Node cs) → IsPair first (name_in cs 0) (name_in cs 1)
    → IsPair second (name_in cs 2) (name_in cs 3) → IsPair third (name_in cs 4) (name_in cs 5)
    → IsPair fourth (name_in cs 6) (name_in cs 7)
    → key_from level bits
    (record { first = first; second = second; third = third; fourth = fourth }) ≡ Node cs
node_words zero bits first second third fourth cs h p q r s = absurd (omega (arith, h.above))
node_words (suc level) bits first second third fourth cs h p q r s =
    words_key (suc level) (Node cs)
    (pair_number (record { first = first; second = second; third = third; fourth = fourth })) h
    (four_words level first second third fourth cs p q r s)

-- a leaf's key has one word of bits, and a node's one row of pairs
pub one_leaf : (a b : ℕ) (r s : Pairs) → key_from 0 a r ≡ key_from 0 b s → a ≡ b
one_leaf a b r s e = ap (λ (k : Key). key_word k 0) e

same_pairs : (r s : Pairs) → r.first ≡ s.first → r.second ≡ s.second → r.third ≡ s.third
    → r.fourth ≡ s.fourth → r ≡ s
unfolding made_pairs
same_pairs r s a b c d =
    ap (λ (x : ℕ). made_pairs x r.second r.third r.fourth) a
    ∙ ap (λ (x : ℕ). made_pairs s.first x r.third r.fourth) b
    ∙ ap (λ (x : ℕ). made_pairs s.first s.second x r.fourth) c
    ∙ ap (λ (x : ℕ). made_pairs s.first s.second s.third x) d

pub one_row : (level a b : ℕ) (r s : Pairs) → 1 ≤ level → key_from level a r ≡ key_from level b s
    → r ≡ s
one_row zero a b r s h e = absurd (omega arith)
one_row (suc level) a b r s h e =
    let word : (i : ℕ) → i < 4 → pair_number r i ≡ pair_number s i =
    λ i lt. sym (key_back (suc level) (pair_number r) i lt) ∙ ap (λ (k : Key). key_word k i) e
    ∙ key_back (suc level) (pair_number s) i lt in
    same_pairs r s (word 0 (omega arith)) (word 1 (omega arith)) (word 2 (omega arith))
    (word 3 (omega arith))
