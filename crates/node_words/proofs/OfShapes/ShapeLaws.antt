-- Laws of shapes: octants and their cells, and that canonical shapes of the same cells are equal.
use Rattle.std.proofs.Common.{◌≡◌, ◌≢◌, ℕ, zero, suc, ◌+◌, ◌*◌, ◌/◌, ◌%◌, ◌^◌, ◌<◌, ◌≤◌, false, refl, sym, ◌∙◌, ap, subst, arith, eqb}
use Rattle.std.specs.Prelude.{◌==◌}
use Rattle.std.proofs.Math.Pow.{pow_pos}
use Rattle.std.specs.Int.{bit_at, w64}
use Rattle.std.proofs.lemmas.Bool.{false≢true}
use Rattle.std.proofs.lemmas.Nat.{div-mul-add, mod-mul-add}
use Rattle.std.proofs.lemmas.Nat.Bits.{same_from_bits_below, bit_at-lt, bit_at-zero, bit_at-trailing_zeros}
use Rattle.std.proofs.lemmas.Grind.{common_steps, pow_more}
use Rattle.std.proofs.lemmas.Bool.Decides.{nat_tests}
use Rattle.vw_cell.specs.Places.{block_side, half_x, half_y, half_z}
use Rattle.node_words.specs.shapes.Shape.{Shape, Clear, Leaf, Branch, octant_shape, branch_of, bit_number, has, SameCells, HasCell, IsCanonical, IsCanonicalUpTo, IsPart, whole, within}

pub block_side-suc : (level : ℕ) → block_side (suc level) ≡ 2 * block_side level
block_side-suc level = let e : suc level ≡ level + 1 = omega arith in rw (e, pow_more) (omega arith)

pub block_side_some : (level : ℕ) → 0 < block_side level
block_side_some level = omega (arith, pow_pos level)

-- the octants of a clear block are clear
pub octant_shape-clear : (k : ℕ) → octant_shape Clear k ≡ Clear
octant_shape-clear zero = refl
octant_shape-clear (suc k) = refl

pub octant_shape-branch_of : (octants : ℕ → Shape) (k : ℕ) → k < 8
    → octant_shape (branch_of octants) k ≡ octants k
octant_shape-branch_of f zero h = refl
octant_shape-branch_of f (suc zero) h = refl
octant_shape-branch_of f (suc (suc zero)) h = refl
octant_shape-branch_of f (suc (suc (suc zero))) h = refl
octant_shape-branch_of f (suc (suc (suc (suc zero)))) h = refl
octant_shape-branch_of f (suc (suc (suc (suc (suc zero))))) h = refl
octant_shape-branch_of f (suc (suc (suc (suc (suc (suc zero)))))) h = refl
octant_shape-branch_of f (suc (suc (suc (suc (suc (suc (suc zero))))))) h = refl
octant_shape-branch_of f (suc (suc (suc (suc (suc (suc (suc (suc k)))))))) h = absurd (omega arith)

pub octant_shape-past : (s : Shape) (k : ℕ) → 8 ≤ k → octant_shape s k ≡ Clear
octant_shape-past Clear k h = octant_shape-clear k
octant_shape-past (Leaf bits) zero h = refl
octant_shape-past (Leaf bits) (suc k) h = refl
octant_shape-past (Branch a b c d e f g i) (suc (suc (suc (suc (suc (suc (suc (suc k)))))))) h =
    refl
octant_shape-past (Branch a b c d e f g i) _ h = absurd (omega arith)

-- a clear block has no set cell
pub has-clear : (level x y z : ℕ) → has level Clear x y z ≡ false
unfolding has
has-clear zero x y z = rw (bit_at-zero (bit_number x y z)) refl
has-clear (suc level) x y z = rw octant_shape-clear (has-clear level _ _ _)

-- the cells of an octant, at the half i of x, j of y and k of z
pub has-octant : (level : ℕ) (s : Shape) (i j k x y z : ℕ) → x < block_side level
    → y < block_side level → z < block_side level
    → has (suc level) s (i * block_side level + x) (j * block_side level + y)
    (k * block_side level + z) ≡ has level (octant_shape s (i + 2 * j + 4 * k)) x y z
unfolding has
has-octant level s i j k x y z p q r =
    rw (
      div-mul-add i (block_side level) x p,
      div-mul-add j (block_side level) y q,
      div-mul-add k
          (block_side level) z r,
      mod-mul-add i (block_side level) x p,
      mod-mul-add j
          (block_side level) y q,
      mod-mul-add k (block_side level) z r,
    ) refl

-- an octant's number is that of its halves, each 0 or 1
pub record Halves (k : ℕ) : Type 0 where
  pub number : half_x k + 2 * half_y k + 4 * half_z k ≡ k
  pub x : half_x k < 2
  pub y : half_y k < 2
  pub z : half_z k < 2

pub halves : (k : ℕ) → k < 8 → Halves k
halves k h = record { number = omega arith; x = omega arith; y = omega arith; z = omega arith }

-- a place in a half of a block is a place in the block
pub half_in : (level i x : ℕ) → i < 2 → x < block_side level
    → i * block_side level + x < block_side (suc level)
half_in level i x p q = rw block_side-suc (grind (arith, common_steps))

-- the cells of octant k of a block
pub has-in_octant : (level : ℕ) (s : Shape) (k x y z : ℕ) → k < 8 → x < block_side level
    → y < block_side level → z < block_side level
    → has (suc level) s (half_x k * block_side level + x) (half_y k * block_side level + y)
    (half_z k * block_side level + z) ≡ has level (octant_shape s k) x y z
has-in_octant level s k x y z h p q r =
    has-octant level s (half_x k) (half_y k) (half_z k) x y z p q r
    ∙ ap (λ o. has level (octant_shape s o) x y z) (halves k h).number

-- a bit of a leaf is that of a cell
pub record BitPlace (i : ℕ) : Type 0 where
  pub number : bit_number (i % 4) (i / 4 % 4) (i / 16) ≡ i
  pub x : i % 4 < block_side 0
  pub y : i / 4 % 4 < block_side 0
  pub z : i / 16 < block_side 0

pub bit_place : (i : ℕ) → i < 64 → BitPlace i
bit_place i h = record { number = omega arith; x = omega arith; y = omega arith; z = omega arith }

leaf_cell : (b : ℕ) → 0 < b → b < 2 ^ 64 → HasCell zero (Leaf b)
unfolding has
leaf_cell b p q =
    let t = bit_at-trailing_zeros w64 b p q in
    let e = bit_place _ t.0 in
    record {
      x = _;
      y = _;
      z = _;
      x_in = e.x;
      y_in = e.y;
      z_in = e.z;
      set = rw e.number
          (rw t.1 refl);
    }

branch_cell : (level : ℕ) (s : Shape) (k : ℕ) → k < 8 → HasCell level (octant_shape s k)
    → HasCell (suc level) s
branch_cell level s k h c =
    let f = halves k h in
    record {
      x = _;
      y = _;
      z = _;
      x_in = half_in level (half_x k) c.x f.x c.x_in;
      y_in = half_in level (half_y k) c.y f.y c.y_in;
      z_in = half_in level (half_z k) c.z f.z c.z_in;
      set = has-in_octant level s k c.x c.y c.z h c.x_in c.y_in c.z_in ∙ c.set;
    }

-- a canonical shape that isn't clear has a set cell
pub some_cell : (level : ℕ) (s : Shape) → IsCanonical level s → s ≢ Clear → HasCell level s
unfolding IsCanonical
some_cell level Clear c n = absurd (n refl)
some_cell zero (Leaf b) c n = leaf_cell b c.0 c.1
some_cell zero (Branch a b c d e f g h) p n = absurd p
some_cell (suc level) (Leaf b) c n = absurd c.0
some_cell (suc level) (Branch a b c d e f g h) p n =
    let (k, lt, ne) =
    p.0 in branch_cell level (Branch a b c d e f g h) k lt (some_cell level _ (p.1 k) ne)

same_bit : (m n : ℕ) → m < 2 → n < 2 → eqb m 1 ≡ eqb n 1 → m ≡ n
same_bit m n p q e = grind (arith, nat_tests)

-- a shape with a set cell has other cells than a clear block
pub not_clear : (level : ℕ) (s : Shape) → HasCell level s → SameCells level s Clear → ⊥
not_clear level s c same =
    false≢true
    (sym (has-clear level c.x c.y c.z) ∙ sym (same.each c.x c.y c.z c.x_in c.y_in c.z_in)
    ∙ c.set)

same_back : (level : ℕ) (s t : Shape) → SameCells level s t → SameCells level t s
same_back level s t h = record { each = λ x y z p q r. sym (h.each x y z p q r) }

same_leaves : (b c : ℕ) → b < 2 ^ 64 → c < 2 ^ 64 → SameCells zero (Leaf b) (Leaf c) → b ≡ c
unfolding has
same_leaves b c p q same = same_from_bits_below 64 b c p q (λ i h.
    let e = bit_place i h in
    let f : (n : ℕ) → n ≡ i → (bit_at b n == 1) ≡ (bit_at c n == 1) → bit_at b i ≡ bit_at c i = λ n en en'. same_bit _ _ (bit_at-lt b i) (bit_at-lt c i) (rw en at en') in
    f _ e.number (same.each _ _ _ e.x e.y e.z))

pub same_octants : (level : ℕ) (s t : Shape) → SameCells (suc level) s t → (k : ℕ) → k < 8
    → SameCells level (octant_shape s k) (octant_shape t k)
same_octants level s t same k h = record {
  each = λ x y z px py pz.
      let f = halves k h in
      sym (has-in_octant level s k x y z h px py pz)
      ∙ same.each _ _ _ (half_in level (half_x k) x f.x px) (half_in level (half_y k) y f.y py)
      (half_in level (half_z k) z f.z pz) ∙ has-in_octant level t k x y z h px py pz;
}

clear_or_cell : (level : ℕ) (s t : Shape) → IsCanonical level s → s ≢ Clear → t ≡ Clear
    → SameCells level s t → ⊥
clear_or_cell level s t c n e same =
    not_clear level s (some_cell level s c n)
    (let P : Shape → Type 0 = λ u. SameCells level s u in subst P e same)

-- canonical shapes of one level with the same cells are equal
pub same_shape : (level : ℕ) (s t : Shape) → IsCanonical level s → IsCanonical level t
    → SameCells level s t → s ≡ t
unfolding IsCanonical
same_shape l Clear Clear p q same = refl
same_shape zero Clear (Leaf b) p q same =
    absurd (not_clear 0 (Leaf b) (leaf_cell b q.0 q.1) (same_back 0 Clear (Leaf b) same))
same_shape zero (Leaf b) Clear p q same = absurd (not_clear 0 (Leaf b) (leaf_cell b p.0 p.1) same)
same_shape zero (Leaf b) (Leaf c) p q same = ap Leaf (same_leaves b c p.1 q.1 same)
same_shape zero (Branch a b c d e f g h) t p q same = absurd p
same_shape zero Clear (Branch a b c d e f g h) p q same = absurd q
same_shape zero (Leaf bits) (Branch a b c d e f g h) p q same = absurd q
same_shape (suc l) (Leaf b) t p q same = absurd p.0
same_shape (suc l) Clear (Leaf b) p q same = absurd q.0
same_shape (suc l) (Branch a b c d e f g h) (Leaf i) p q same = absurd q.0
same_shape (suc l) Clear (Branch a b c d e f g h) p q same =
    absurd (clear_or_cell (suc l) (Branch a b c d e f g h) Clear q (λ w. cc) refl
    (same_back (suc l) Clear (Branch a b c d e f g h) same))
same_shape (suc l) (Branch a b c d e f g h) Clear p q same =
    absurd (clear_or_cell (suc l) (Branch a b c d e f g h) Clear p (λ w. cc) refl same)
same_shape (suc l) (Branch a b c d e f g h) (Branch i j k m n o u v) p q same =
    let at : (w : ℕ) → w < 8 → octant_shape (Branch a b c d e f g h) w ≡ octant_shape (Branch i j k m n o u v) w = λ w lt. same_shape l _ _ (p.1 w) (q.1 w) (same_octants l _ _ same w lt) in
    cc (
      at 0 (omega arith),
      at 1 (omega arith),
      at 2 (omega arith),
      at 3 (omega arith),
      at 4
          (omega arith),
      at 5 (omega arith),
      at 6 (omega arith),
      at 7 (omega arith),
    )

-- a clear block is canonical
pub clear_canonical : (level : ℕ) → IsCanonical level Clear
unfolding IsCanonical
clear_canonical zero = tt
clear_canonical (suc level) =
    (tt, λ j. subst (λ s. IsCanonical level s) (sym (octant_shape-clear j)) (clear_canonical level))

-- the octants of a canonical shape are canonical
pub octant_canonical : (level : ℕ) (s : Shape) (k : ℕ) → IsCanonical (suc level) s
    → IsCanonical level (octant_shape s k)
unfolding IsCanonical
octant_canonical level s k h = h.1 k

each_octant : (level : ℕ) (octants : ℕ → Shape) → ((j : ℕ) → j < 8 → IsCanonical level (octants j))
    → (j : ℕ) → IsCanonical level (octant_shape (branch_of octants) j)
each_octant level f h zero = h 0 (omega arith)
each_octant level f h (suc zero) = h 1 (omega arith)
each_octant level f h (suc (suc zero)) = h 2 (omega arith)
each_octant level f h (suc (suc (suc zero))) = h 3 (omega arith)
each_octant level f h (suc (suc (suc (suc zero)))) = h 4 (omega arith)
each_octant level f h (suc (suc (suc (suc (suc zero))))) = h 5 (omega arith)
each_octant level f h (suc (suc (suc (suc (suc (suc zero)))))) = h 6 (omega arith)
each_octant level f h (suc (suc (suc (suc (suc (suc (suc zero))))))) = h 7 (omega arith)
each_octant level f h (suc (suc (suc (suc (suc (suc (suc (suc j)))))))) = clear_canonical level

-- a branch of canonical octants that aren't all clear is canonical
pub branch_canonical : (level : ℕ) (octants : ℕ → Shape) (k : ℕ) → k < 8 → octants k ≢ Clear
    → ((j : ℕ) → j < 8 → IsCanonical level (octants j))
    → IsCanonical (suc level) (branch_of octants)
unfolding IsCanonical
branch_canonical level f k lt ne h =
    ((k, lt, λ e. ne (sym (octant_shape-branch_of f k lt) ∙ e)), each_octant level f h)

-- a part of a shape isn't clear
pub part_some : (p s : Shape) → IsPart p s → p ≢ Clear
part_some p s (whole ne) = ne
part_some p s (within k h) = part_some p (octant_shape s k) h

-- a clear shape has no part
clear_partless : (p s : Shape) → s ≡ Clear → IsPart p s → ⊥
clear_partless p s e (whole ne) = ne e
clear_partless p s e (within k h) =
    clear_partless p (octant_shape s k)
    (ap (λ (t : Shape). octant_shape t k) e ∙ octant_shape-clear k) h

leaf_octants : (s : Shape) (k : ℕ) → IsCanonical 0 s → octant_shape s k ≡ Clear
unfolding IsCanonical
leaf_octants Clear k h = octant_shape-clear k
leaf_octants (Leaf b) zero h = refl
leaf_octants (Leaf b) (suc k) h = refl
leaf_octants (Branch a b c d e f g i) k h = absurd h

-- a part of a canonical shape is canonical at a level up to the shape's
pub part_canonical : (level : ℕ) (p s : Shape) → IsCanonical level s → IsPart p s
    → IsCanonicalUpTo level p
part_canonical level p s h (whole ne) = record { at = level; up_to = omega arith; canonical = h }
part_canonical zero p s h (within k q) =
    absurd (clear_partless p (octant_shape s k) (leaf_octants s k h) q)
part_canonical (suc level) p s h (within k q) =
    let below = part_canonical level p (octant_shape s k) (octant_canonical level s k h) q in
    record { at = below.at; up_to = omega (arith, below.up_to); canonical = below.canonical }

-- a canonical shape that isn't clear has one level
pub one_level : (j k : ℕ) (s : Shape) → s ≢ Clear → IsCanonical j s → IsCanonical k s → j ≡ k
unfolding IsCanonical
one_level j k Clear ne p q = absurd (ne refl)
one_level zero zero s ne p q = refl
one_level zero (suc k) (Leaf b) ne p q = absurd q.0
one_level zero (suc k) (Branch a b c d e f g h) ne p q = absurd p
one_level (suc j) zero (Leaf b) ne p q = absurd p.0
one_level (suc j) zero (Branch a b c d e f g h) ne p q = absurd q
one_level (suc j) (suc k) (Leaf b) ne p q = absurd p.0
one_level (suc j) (suc k) (Branch a b c d e f g h) ne p q =
    let o = p.0 in
    ap suc (one_level j k (octant_shape (Branch a b c d e f g h) o.0) o.2 (p.1 o.0) (q.1 o.0))
