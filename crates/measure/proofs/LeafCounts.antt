-- The number of set cells of a part of a leaf.
use Rattle.std.proofs.Common.{◌≡◌, ℕ, zero, suc, ◌+◌, ◌-◌, ◌*◌, ◌^◌, ◌<◌, ◌≤◌, Bool, true, false, min, refl, sym, ap, ◌∙◌, arith, inl, inr}
use Rattle.std.specs.Prelude.{◌==◌, ◌&&◌, bit_and}
use Rattle.std.specs.Int.{bit_at}
use Rattle.std.specs.Int.RustNames.{count_ones}
use Rattle.std.proofs.lemmas.Bool.{cases_Bool}
use Rattle.std.proofs.lemmas.Nat.Bits.{bit_at_and, bit_at-lt}
use native.Mathlib.Nat.{suc-mul}
use Rattle.vw_cell.proofs.Masks.{ones_low}
use Rattle.vw_cell.specs.declared.cells.Cell.{Cell}
use Rattle.vw_cell.specs.declared.boxes.Boxed.{Boxed}
use Rattle.vw_cell.specs.declared.blocks.Block.{Block}
use Rattle.vw_cell.specs.Places.{is_within, is_in_box, IsWithin}
use Rattle.vw_cell.specs.Tests.{is_within_holds, is_within_tells}
use Rattle.node_words.specs.Sums.{sum_below, sum_below-same, sum_below-add, one_if}
use Rattle.vw_cell.specs.Counts.{cell_at, number_in}
use Rattle.node_words.specs.shapes.Shape.{bit_number}
use Rattle.node_words.specs.kernels.Leaves.{LeafShows}
use Rattle.node_words.proofs.OfDescent.LookLaws.{same_cell}
use lib.Bits.{and_le_l}
use native.Mathlib.Nat.{mod-eq_of_lt}
use Rattle.node_words.specs.descent.Parts.{EndsBy}
use Rattle.measure.specs.Leaves.{BitsPassTest}

-- a sum of sums is one sum
sums : (n m : ℕ) (f : ℕ → ℕ)
    → sum_below (n * m) f ≡ sum_below n (λ i. sum_below m (λ j. f (i * m + j)))
unfolding sum_below
sums zero m f = let e : zero * m ≡ 0 = omega arith in ap (λ (k : ℕ). sum_below k f) e
sums (suc n) m f =
    let e : suc n * m ≡ n * m + m = suc-mul n m in
    let first = sums n m f in
    let parts = sum_below-add (n * m) m f in
    ap (λ (k : ℕ). sum_below k f) e ∙ omega (arith, parts, first)

sum_zero : (n : ℕ) (f : ℕ → ℕ) → ((i : ℕ) → i < n → f i ≡ 0) → sum_below n f ≡ 0
unfolding sum_below
sum_zero zero f none = refl
sum_zero (suc n) f none =
    let below = sum_zero n f (λ i lt. none i (omega arith)) in let last = none n
    (omega arith) in omega (arith, below, last)

outside : (at size p : ℕ) → (IsWithin at size p → ⊥) → is_within at size p ≡ false
outside at size p out =
    elim
    (cases_Bool (is_within at size p)) [
      | inl h ↦ absurd
          (out (is_within_tells at size p h))
      | inr h ↦ h
    ]

-- a sum in which only the terms of a stretch count
stretch_sum : (n at size : ℕ) (f g : ℕ → ℕ) → at + size ≤ n
    → ((p : ℕ) → p < n → is_within at size p ≡ true → g p ≡ f p)
    → ((p : ℕ) → p < n → is_within at size p ≡ false → g p ≡ 0)
    → sum_below n g ≡ sum_below size (λ p. f (at + p))
stretch_sum n at size f g fits same none =
    let rest : ℕ = n - (at + size) in
    let all : n ≡ at + (size + rest) = omega arith in
    let one = sum_below-add at (size + rest) g in
    let two = sum_below-add size rest (λ i. g (at + i)) in
    let before : sum_below at g ≡ 0 =
    sum_zero at g
    (λ i lt. none i (omega arith)
    (outside at size i (λ w. (let low = w.0 in absurd (omega arith))))) in
    let after : sum_below rest (λ i. g (at + (size + i))) ≡ 0 =
    sum_zero rest _
    (λ i lt. none (at + (size + i)) (omega arith)
    (outside at size (at + (size + i))
    (λ w. (let high = w.1 in absurd (omega arith))))) in
    let inside : sum_below size (λ i. g (at + i)) ≡ sum_below size (λ p. f (at + p)) =
    sum_below-same size _ _
    (λ i lt. same (at + i) (omega arith)
    (is_within_holds at size (at + i) (omega arith, omega arith))) in
    ap (λ (m : ℕ). sum_below m g) all ∙ omega (arith, one, two, before, after, inside)

-- both bits are set
pub both : (a b : ℕ) → a < 2 → b < 2 → (min a b == 1) ≡ ((a == 1) && (b == 1))
both zero b p q = let e : min 0 b ≡ 0 = omega arith in ap (λ (n : ℕ). n == 1) e
both (suc zero) b p q = let e : min 1 b ≡ b = omega arith in ap (λ (n : ℕ). n == 1) e
both (suc (suc a)) b p q = absurd (omega arith)

-- one of four tests fails, or three hold
off_x : (v b x y z : Bool) → v ≡ (b && ((x && y) && z)) → x ≡ false → one_if v ≡ 0
off_x v true x y z e h = ap one_if (e ∙ ap (λ (w : Bool). (w && y) && z) h)
off_x v false x y z e h = ap one_if e

off_y : (v b x y z : Bool) → v ≡ (b && ((x && y) && z)) → y ≡ false → one_if v ≡ 0
off_y v true true y z e h = ap one_if (e ∙ ap (λ (w : Bool). w && z) h)
off_y v true false y z e h = ap one_if e
off_y v false x y z e h = ap one_if e

off_z : (v b x y z : Bool) → v ≡ (b && ((x && y) && z)) → z ≡ false → one_if v ≡ 0
off_z v true true true z e h = ap one_if (e ∙ h)
off_z v true true false z e h = ap one_if e
off_z v true false y z e h = ap one_if e
off_z v false x y z e h = ap one_if e

on_all : (v b x y z : Bool) → v ≡ (b && ((x && y) && z)) → x ≡ true → y ≡ true → z ≡ true
    → one_if v ≡ one_if b
on_all v true x y z e p q r =
    ap one_if (e ∙ ap (λ (w : Bool). (w && y) && z) p ∙ ap (λ (w : Bool). w && z) q ∙ r)
on_all v false x y z e p q r = ap one_if e

-- the bit of a cell in both words
cell_bit : (bits mask : ℕ) (part : Boxed) (block : Block) (test : Cell → Bool) (x y z : ℕ) → x < 4
    → y < 4 → z < 4 → block.at ≡ cell_at 0 0 0 → LeafShows mask block (is_in_box part)
    → BitsPassTest bits test
    → (bit_at (bit_and bits mask) (bit_number x y z) == 1) ≡
    (test (cell_at x y z) && is_in_box part (cell_at x y z))
cell_bit bits mask part block test x y z p q r at shows e =
    let n : ℕ = bit_number x y z in
    let px : block.at.x + x ≡ x =
    (let o : block.at.x ≡ 0 = ap (λ (c : Cell). c.x) at in omega arith) in
    let py : block.at.y + y ≡ y =
    (let o : block.at.y ≡ 0 = ap (λ (c : Cell). c.y) at in omega arith) in
    let pz : block.at.z + z ≡ z =
    (let o : block.at.z ≡ 0 = ap (λ (c : Cell). c.z) at in omega arith) in
    let place : cell_at (block.at.x + x) (block.at.y + y) (block.at.z + z) ≡ cell_at x y z =
    same_cell (cell_at (block.at.x + x) (block.at.y + y) (block.at.z + z)) x y z px py pz in
    ap (λ (b : ℕ). b == 1) (bit_at_and bits mask n)
    ∙ both (bit_at bits n) (bit_at mask n) (bit_at-lt bits n) (bit_at-lt mask n)
    ∙ ap (λ (b : Bool). b && (bit_at mask n == 1)) (e.each x y z p q r)
    ∙ ap (λ (b : Bool). test (cell_at x y z) && b)
    (shows.each x y z p q r ∙ ap (is_in_box part) place)

pub leaf_number : (bits mask : ℕ) (part : Boxed) (block : Block) (test : Cell → Bool)
    → bits < 2 ^ 64 → EndsBy 4 part → block.at ≡ cell_at 0 0 0
    → LeafShows mask block (is_in_box part) → BitsPassTest bits test
    → count_ones (bit_and bits mask) ≡ number_in part test
leaf_number bits mask part block test small ends at shows e =
    let word : ℕ = bit_and bits mask in
    let g : ℕ → ℕ → ℕ → ℕ = λ x y z. one_if (bit_at word (bit_number x y z) == 1) in
    let bit =
    λ (x y z : ℕ) (p : x < 4) (q : y < 4)
    (r : z < 4). cell_bit bits mask part block test x y z p q r at shows e in
    let ones_are : count_ones word ≡ sum_below 64 (λ m. one_if (bit_at word m == 1)) =
    (let fits : word < 2 ^ 64 = (let le = and_le_l bits mask in omega (arith, le)) in ap count_ones
    (sym (mod-eq_of_lt fits)) ∙ ones_low 64 word)
    in
    let layers : sum_below 64 (λ m. one_if (bit_at word m == 1)) ≡ sum_below 4 (λ z. sum_below 16 (λ r. one_if (bit_at word (z * 16 + r) == 1))) = sums 4 16 (λ m. one_if (bit_at word m == 1)) in
    let rows : sum_below 4 (λ z. sum_below 16 (λ r. one_if (bit_at word (z * 16 + r) == 1))) ≡ sum_below 4 (λ z. sum_below 4 (λ y. sum_below 4 (λ x. g x y z))) =
    sum_below-same 4 _ _
    (λ z _. sums 4 4 (λ r. one_if (bit_at word (z * 16 + r) == 1))
    ∙ sum_below-same 4 _ _ (λ y _. sum_below-same 4 _ _ (λ x _.
    let place : z * 16 + (y * 4 + x) ≡ bit_number x y z =
    omega arith in ap (λ (m : ℕ). one_if (bit_at word m == 1)) place)))
    in
    let box : sum_below 4 (λ z. sum_below 4 (λ y. sum_below 4 (λ x. g x y z))) ≡ number_in part test =
    stretch_sum 4 part.at.z part.size.z
    (λ z. sum_below part.size.y
    (λ y. sum_below part.size.x
    (λ x. one_if (test (cell_at (part.at.x + x) (part.at.y + y) z)))))
    (λ z. sum_below 4 (λ y. sum_below 4 (λ x. g x y z))) ends.z
    (λ z lz wz. stretch_sum 4 part.at.y part.size.y
    (λ y. sum_below part.size.x (λ x. one_if (test (cell_at (part.at.x + x) y z))))
    (λ y. sum_below 4 (λ x. g x y z)) ends.y
    (λ y ly wy. stretch_sum 4 part.at.x part.size.x (λ x. one_if (test (cell_at x y z)))
    (λ x. g x y z) ends.x
    (λ x lx wx. on_all _ _ _ _ _ (bit x y z lx ly lz) wx wy wz)
    (λ x lx wx. off_x _ (test (cell_at x y z)) _ (is_within part.at.y part.size.y y)
    (is_within part.at.z part.size.z z) (bit x y z lx ly lz) wx))
    (λ y ly wy. sum_zero 4 _
    (λ x lx. off_y _ (test (cell_at x y z)) (is_within part.at.x part.size.x x) _
    (is_within part.at.z part.size.z z) (bit x y z lx ly lz) wy)))
    (λ z lz wz. sum_zero 4 _
    (λ y ly. sum_zero 4 _
    (λ x lx. off_z _ (test (cell_at x y z)) (is_within part.at.x part.size.x x)
    (is_within part.at.y part.size.y y) _ (bit x y z lx ly lz) wz)))
    in
    ones_are ∙ layers ∙ rows ∙ box
