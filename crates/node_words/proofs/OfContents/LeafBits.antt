-- The bits of a leaf with given cells, and the shape of a leaf's bits.
use Rattle.std.proofs.Common.{◌≡◌, ◌≢◌, ℕ, zero, suc, ◌+◌, ◌-◌, ◌*◌, ◌/◌, ◌%◌, ◌^◌, ◌<◌, ◌==◌, Bool, true, false, refl, sym, ◌∙◌, ap, arith, inl, inr}
use Rattle.std.specs.Int.{bit_at}
use Rattle.std.proofs.lemmas.Bool.{cases_lt}
use Rattle.std.proofs.lemmas.Nat.Bits.{bit_at_cat_low, bit_at_cat_high}
use Rattle.std.proofs.lemmas.Grind.{pow_more}
use Rattle.node_words.specs.Sums.{one_if}
use Rattle.node_words.specs.shapes.Shape.{Clear, Leaf, bits_of, bit_number, has, IsCanonical}
use Rattle.node_words.specs.contents.CellShapes.{Cells, bits_below, bits_with, leaf_shape}

-- bits

one_if-bit : (b : Bool) → bit_at (one_if b) 0 ≡ one_if b
one_if-bit true = refl
one_if-bit false = refl

pub bits_below-small : (test : ℕ → Bool) (n : ℕ) → bits_below test n < 2 ^ n
unfolding bits_below
bits_below-small test zero = omega arith
bits_below-small test (suc n) =
    let one : suc n ≡ n + 1 = omega arith in
    let e : 2 ^ suc n ≡ 2 * 2 ^ n = rw (one, pow_more) (omega arith) in
    let h = bits_below-small test n in
    elim (test n) as
    (λ b. one_if b * 2 ^ n + bits_below test n < 2 ^ suc n) [
      | true ↦ omega
          (arith, e, h)
      | false ↦ omega (arith, e, h)
    ]

pub bits_below-bit : (test : ℕ → Bool) (n i : ℕ) → i < n
    → bit_at (bits_below test n) i ≡ one_if (test i)
unfolding bits_below
bits_below-bit test zero i h = absurd (omega arith)
bits_below-bit test (suc n) i h = elim (cases_lt i n) [
  | inl l ↦ bit_at_cat_low (one_if (test n)) n (bits_below test n) i l ∙ bits_below-bit test n i l
  | inr r ↦
      let e : i ≡ n = omega arith in
      let o : i - n ≡ 0 = omega arith in
      bit_at_cat_high (one_if (test n)) n (bits_below test n) i (bits_below-small test n)
      (omega arith)
      ∙ ap (λ (j : ℕ). bit_at (one_if (test n)) j) o ∙ one_if-bit (test n)
      ∙ ap (λ (j : ℕ). one_if (test j)) (sym e)
]

one_if-test : (b : Bool) → (one_if b == 1) ≡ b
one_if-test true = refl
one_if-test false = refl

-- the place of a bit's cell
record CellOf (x y z : ℕ) : Type 0 where
  below : bit_number x y z < 64
  x_is : bit_number x y z % 4 ≡ x
  y_is : bit_number x y z / 4 % 4 ≡ y
  z_is : bit_number x y z / 16 ≡ z

cell_of : (x y z : ℕ) → x < 4 → y < 4 → z < 4 → CellOf x y z
cell_of x y z p q r =
    record { below = omega arith; x_is = omega arith; y_is = omega arith; z_is = omega arith }

pub bits_with-bit : (cells : Cells) (x y z : ℕ) → x < 4 → y < 4 → z < 4
    → (bit_at (bits_with cells) (bit_number x y z) == 1) ≡ cells x y z
bits_with-bit cells x y z p q r =
    let e = cell_of x y z p q r in
    let i : ℕ = bit_number x y z in
    ap (λ (n : ℕ). n == 1) (bits_below-bit (λ j. cells (j % 4) (j / 4 % 4) (j / 16)) 64 i e.below)
    ∙ one_if-test (cells (i % 4) (i / 4 % 4) (i / 16))
    ∙ ap (λ (a : ℕ). cells a (i / 4 % 4) (i / 16)) e.x_is
    ∙ ap (λ (a : ℕ). cells x a (i / 16)) e.y_is ∙ ap (λ (a : ℕ). cells x y a) e.z_is

-- a leaf's bits, as a shape

pub leaf_shape-bits : (bits : ℕ) → bits_of (leaf_shape bits) ≡ bits
leaf_shape-bits zero = refl
leaf_shape-bits (suc n) = refl

pub leaf_shape-canonical : (bits : ℕ) → bits < 2 ^ 64 → IsCanonical 0 (leaf_shape bits)
unfolding IsCanonical
leaf_shape-canonical zero h = tt
leaf_shape-canonical (suc n) h = (omega arith, h)

pub leaf_shape-has : (bits x y z : ℕ)
    → has 0 (leaf_shape bits) x y z ≡ (bit_at bits (bit_number x y z) == 1)
unfolding has
leaf_shape-has bits x y z = ap (λ (b : ℕ). bit_at b (bit_number x y z) == 1) (leaf_shape-bits bits)

pub leaf_shape-some : (bits : ℕ) → bits ≢ 0 → leaf_shape bits ≡ Leaf bits
leaf_shape-some zero ne = absurd (ne refl)
leaf_shape-some (suc n) ne = refl

pub leaf_shape-none : (bits : ℕ) → bits ≡ 0 → leaf_shape bits ≡ Clear
leaf_shape-none bits e = ap leaf_shape e
