-- The shape of eight octants: it has them, is canonical where they are, and is clear where all of
-- them are.
use Rattle.std.proofs.Common.{◌≡◌, ◌≢◌, ℕ, zero, suc, ◌<◌, Bool, true, false, refl, sym, ◌∙◌, ap, subst, arith, inl, inr}
use Rattle.std.specs.Prelude.{◌&&◌}
use Rattle.std.proofs.lemmas.Bool.{cases_lt, false≢true, and_parts}
use Rattle.node_words.specs.shapes.Shape.{Shape, Clear, Leaf, Branch, octant_shape, branch_of, IsCanonical}
use Rattle.node_words.proofs.OfShapes.ShapeLaws.{octant_shape-clear, octant_shape-branch_of, clear_canonical, branch_canonical}
use Rattle.node_words.specs.contents.CellShapes.{is_clear, are_clear, joined_shape}

-- octants, as a shape

is_clear-tells : (s : Shape) → is_clear s ≡ true → s ≡ Clear
is_clear-tells Clear e = refl
is_clear-tells (Leaf b) e = absurd (false≢true e)
is_clear-tells (Branch a b c d e f g h) q = absurd (false≢true q)

is_clear-not : (s : Shape) → is_clear s ≡ false → s ≢ Clear
is_clear-not Clear e h = absurd (false≢true (sym e))
is_clear-not (Leaf b) e h = cc
is_clear-not (Branch a b c d e f g h) q r = cc

are_clear-each : (octants : ℕ → Shape) (n k : ℕ) → are_clear octants n ≡ true → k < n
    → octants k ≡ Clear
unfolding are_clear
are_clear-each f zero k e h = absurd (omega arith)
are_clear-each f (suc n) k e h =
    let p = and_parts (are_clear f n) (is_clear (f n)) e in
    elim (cases_lt k n) [
      | inl l ↦ are_clear-each f n k p.0 l
      | inr r ↦ let q : k ≡ n = omega arith in ap f q ∙ is_clear-tells (f n) p.1
    ]

pub are_clear-all : (octants : ℕ → Shape) (n : ℕ) → ((k : ℕ) → k < n → octants k ≡ Clear)
    → are_clear octants n ≡ true
unfolding are_clear
are_clear-all f zero h = refl
are_clear-all f (suc n) h =
    rw (are_clear-all f n (λ k l. h k (omega arith)), h n (omega arith)) refl

-- some octant isn't clear
pub record SomeOctant (octants : ℕ → Shape) (n : ℕ) : Type 0 where
  pub octant : ℕ
  pub below : octant < n
  pub there : octants octant ≢ Clear

some_more : (octants : ℕ → Shape) (n : ℕ) (a b : Bool) → is_clear (octants n) ≡ a
    → are_clear octants n ≡ b → (are_clear octants n && is_clear (octants n)) ≡ false
    → (are_clear octants n ≡ false → SomeOctant octants n) → SomeOctant octants (suc n)
some_more f n false b p q e h =
    record { octant = n; below = omega arith; there = is_clear-not (f n) p }
some_more f n true false p q e h =
    let s = h q in record { octant = s.octant; below = omega (arith, s.below); there = s.there }
some_more f n true true p q e h = absurd (false≢true (sym e ∙ rw (p, q) refl))

are_clear-some : (octants : ℕ → Shape) (n : ℕ) → are_clear octants n ≡ false → SomeOctant octants n
unfolding are_clear
are_clear-some f zero e = absurd (false≢true (sym e))
are_clear-some f (suc n) e =
    some_more f n (is_clear (f n)) (are_clear f n) refl refl e (are_clear-some f n)

pub joined_all : (octants : ℕ → Shape) → are_clear octants 8 ≡ true → joined_shape octants ≡ Clear
joined_all f e = rw e refl

pub joined_some : (octants : ℕ → Shape) → are_clear octants 8 ≡ false
    → joined_shape octants ≡ branch_of octants
joined_some f e = rw e refl

pub joined_octant : (octants : ℕ → Shape) (k : ℕ) → k < 8
    → octant_shape (joined_shape octants) k ≡ octants k
joined_octant f k h = at (are_clear f 8) refl
  where
    at : (b : Bool) → are_clear f 8 ≡ b → octant_shape (joined_shape f) k ≡ f k
    at true e = ap (λ s. octant_shape s k) (joined_all f e) ∙ octant_shape-clear k
        ∙ sym (are_clear-each f 8 k e h)
    at false e = ap (λ s. octant_shape s k) (joined_some f e) ∙ octant_shape-branch_of f k h

pub joined_canonical : (level : ℕ) (octants : ℕ → Shape)
    → ((k : ℕ) → k < 8 → IsCanonical level (octants k))
    → IsCanonical (suc level) (joined_shape octants)
joined_canonical level f h = at (are_clear f 8) refl
  where
    at : (b : Bool) → are_clear f 8 ≡ b → IsCanonical (suc level) (joined_shape f)
    at true e = subst (λ s. IsCanonical (suc level) s) (sym (joined_all f e))
        (clear_canonical (suc level))
    at false e = let s = are_clear-some f 8 e in subst (λ s. IsCanonical (suc level) s)
        (sym (joined_some f e)) (branch_canonical level f s.octant s.below s.there h)

-- a canonical block with an octant that isn't clear is a branch of its octants
pub octants_join : (level : ℕ) (s : Shape) (k : ℕ) → IsCanonical (suc level) s
    → octant_shape s k ≢ Clear → branch_of (λ j. octant_shape s j) ≡ s
unfolding IsCanonical
octants_join level Clear k c ne = absurd (ne (octant_shape-clear k))
octants_join level (Leaf b) k c ne = absurd c.0
octants_join level (Branch a b c d e f g h) k p ne = refl

-- one all of whose octants are clear is clear
pub octants_clear : (level : ℕ) (s : Shape) → IsCanonical (suc level) s
    → ((k : ℕ) → k < 8 → octant_shape s k ≡ Clear) → s ≡ Clear
unfolding IsCanonical
octants_clear level Clear c h = refl
octants_clear level (Leaf b) c h = absurd c.0
octants_clear level (Branch a b c d e f g i) p h = let (k, lt, ne) = p.0 in absurd (ne (h k lt))
