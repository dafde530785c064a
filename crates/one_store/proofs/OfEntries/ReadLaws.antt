-- What is read from words, as the look-ups see it.
use Rattle.std.proofs.Common.{◌≡◌, ℕ, zero, suc, ◌-◌, ◌/◌, ◌%◌, ◌^◌, ◌<◌, ◌≤◌, Option, Some, None, List, [], ◌∷◌, length, refl, ap, sym, ◌∙◌, arith, true, false, Bool}
use Rattle.std.specs.Prelude.{slice_index_or}
use Rattle.node_words.specs.declared.shapes.names.Name.{Name}
use Rattle.node_words.specs.declared.keys.Key.TheVariants.{Node}
use Rattle.node_words.specs.Plans.{Layout, IsPlan}
use Rattle.node_words.proofs.PlanLaws.{few_buckets}
use Rattle.core_laws.specs.places.Names.{IsName, HasNames, key_child}
use Rattle.one_store.specs.declared.entries.key_words.Pairs.{Pairs}
use Rattle.core_laws.specs.places.KeyWords.{child_of_word, half}
use Rattle.one_store.specs.entries.Coding.{key_from, pair_number}

-- the child in an octant, by the word and the half that have it
child_read : (level bits : ℕ) (pairs : Pairs) (k : ℕ) → k < 8
    → child_of_word level (half (k % 2) (pair_number pairs (k / 2))) ≡ key_child
    (key_from (suc level) bits pairs) k
child_read level bits pairs zero lt = refl
child_read level bits pairs (suc zero) lt = refl
child_read level bits pairs (suc (suc zero)) lt = refl
child_read level bits pairs (suc (suc (suc zero))) lt = refl
child_read level bits pairs (suc (suc (suc (suc zero)))) lt = refl
child_read level bits pairs (suc (suc (suc (suc (suc zero))))) lt = refl
child_read level bits pairs (suc (suc (suc (suc (suc (suc zero)))))) lt = refl
child_read level bits pairs (suc (suc (suc (suc (suc (suc (suc zero))))))) lt = refl
child_read level bits pairs (suc (suc (suc (suc (suc (suc (suc (suc k)))))))) lt =
    absurd (omega arith)

pub child_read_at : (level bits : ℕ) (pairs : Pairs) (k found : ℕ) → 1 ≤ level → k < 8
    → found ≡ half (k % 2) (pair_number pairs (k / 2))
    → child_of_word (level - 1) found ≡ key_child (key_from level bits pairs) k
child_read_at zero bits pairs k found h lt e = absurd (omega arith)
child_read_at (suc level) bits pairs k found h lt e =
    let z : suc level - 1 ≡ level = omega arith in
    ap (λ (l : ℕ). child_of_word l found) z ∙ ap (λ (w : ℕ). child_of_word level w) e
    ∙ child_read level bits pairs k lt

-- the level of a child
abbrev level_in : ℕ → Option Name → ℕ
level_in level None = level
level_in level (Some n) = n.level

read_level : (level found : ℕ) → level_in level (child_of_word level found) ≡ level
read_level level zero = refl
read_level level (suc at) = refl

pub child_below : (level bits : ℕ) (pairs : Pairs) (k : ℕ) (m : Name) → 1 ≤ level → k < 8
    → key_child (key_from level bits pairs) k ≡ Some m → m.level ≡ level - 1
child_below level bits pairs k m above lt e =
    let found : ℕ = half (k % 2) (pair_number pairs (k / 2)) in
    sym (ap (level_in (level - 1)) (child_read_at level bits pairs k found above lt refl ∙ e))
    ∙ read_level (level - 1) found

-- a test is true or isn't
number : Bool → ℕ
number true = 0
number false = 1

never : false ≡ true → ⊥
unfolding number
never e = let n : number false ≡ number true = ap number e in omega (arith, n)

pub untrue : true ≡ false → ⊥
untrue e = never (sym e)

-- what stands for a child of the plan is small
half_small : (p : Layout) (level found : ℕ) → IsPlan p
    → ((n : Name) → child_of_word level found ≡ Some n → IsName p n) → found ≤ 2 ^ 24
half_small p level zero h f = omega arith
half_small p level (suc at) h f =
    let n = f _ refl in let b = few_buckets p level h in omega (arith, n.bucket_in, b)

pub child_small : (p : Layout) (level bits : ℕ) (pairs : Pairs) (k found : ℕ) → IsPlan p → 1 ≤ level
    → k < 8 → HasNames p (key_from level bits pairs)
    → found ≡ half (k % 2) (pair_number pairs (k / 2)) → found ≤ 2 ^ 24
child_small p level bits pairs k found h above lt f e =
    half_small p (level - 1) found h
    (λ n q. f.each k n lt (sym (child_read_at level bits pairs k found above lt e) ∙ q))

-- the eight children of a node's key
pub eight_children : (level bits : ℕ) (pairs : Pairs) → 1 ≤ level
    → Node
    (key_child (key_from level bits pairs) 0 ∷ key_child
    (key_from level bits pairs) 1 ∷ key_child (key_from level bits pairs) 2 ∷ key_child
    (key_from level bits pairs) 3 ∷ key_child (key_from level bits pairs) 4 ∷ key_child
    (key_from level bits pairs) 5 ∷ key_child
    (key_from level bits pairs) 6 ∷ key_child
    (key_from level bits pairs) 7 ∷ []) ≡ key_from level bits pairs
eight_children zero bits pairs h = absurd (omega arith)
eight_children (suc level) bits pairs h = refl

-- an item that is there doesn't depend on what would stand in its place
pub default_any : {A : Type 0} (xs : List A) (i : ℕ) (a b : A) → i < length xs
    → slice_index_or xs i a ≡ slice_index_or xs i b
default_any [] i a b lt = absurd (omega arith)
default_any (x ∷ xs) zero a b lt = refl
default_any (x ∷ xs) (suc i) a b lt = default_any xs i a b (omega arith)

-- equal words say one key
pub same_words : (level a b : ℕ) (r s : Pairs) → a ≡ b → r ≡ s
    → key_from level a r ≡ key_from level b s
same_words level a b r s e f = cc

pub row_key : (level a b : ℕ) (r s : Pairs) → 1 ≤ level → r ≡ s
    → key_from level a r ≡ key_from level b s
row_key zero a b r s h e = absurd (omega arith)
row_key (suc level) a b r s h e = ap (λ (x : Pairs). key_from (suc level) a x) e

pub leaf_key : (level a b : ℕ) (r s : Pairs) → level ≡ 0 → a ≡ b
    → key_from level a r ≡ key_from level b s
leaf_key zero a b r s z e = ap (λ (x : ℕ). key_from zero x r) e
leaf_key (suc level) a b r s z e = absurd (omega (arith, z))
