-- The bits of a model's leaves, cell by cell.
use Rattle.std.proofs.Common.{◌≡◌, ◌≢◌, ℕ, zero, suc, ◌+◌, ◌*◌, ◌/◌, ◌%◌, ◌^◌, ◌<◌, ◌≤◌, ◌==◌, Bool, true, false, List, [], ◌∷◌, refl, sym, ◌∙◌, ap, arith, inl, inr, set, length, take, get_or-set_same, get_or-set_other}
use Rattle.std.specs.Prelude.{◌||◌, slice_index}
use Rattle.std.specs.Int.{bit_at}
use Rattle.std.specs.Prelude.{bit_or, get_or}
use Rattle.std.proofs.Common.{max}
use Rattle.std.proofs.lemmas.Bool.{cases_eq}
use Rattle.std.proofs.lemmas.Bool.Decides.{nat_tests}
use Rattle.std.proofs.lemmas.List.{length-set}
use Rattle.std.proofs.lemmas.List.Folds.{list_any_more}
use Rattle.std.proofs.lemmas.Nat.Bits.{bit_at_or, bit_at-lt, bit_at-pow_same, bit_at-pow_other}
use lib.Pow.{pow_mono}
use native.Mathlib.Nat.{mod-eq_of_lt}
use Rattle.vox_read.specs.Places.{voxel_place}
use Rattle.vox_read.proofs.Bounds.{place_below}
use Rattle.vox_read.proofs.Marking.{stands, stands_tells}
use Rattle.vw_cell.specs.declared.cells.Cell.{Cell}
use Rattle.vw_cell.specs.Counts.{cell_at, IsBelow}
use Rattle.vox_read.specs.declared.voxels.Voxel.{Voxel}
use Rattle.vox_read.specs.Contents.{IsInsideModel, is_voxel_at}
use Rattle.vox_read.specs.Cells.{has_voxel}
use Rattle.vox_read.proofs.Bounds.{same_place}
use Rattle.node_words.specs.shapes.Shape.{bit_number}
use Rattle.edit_stamp.specs.Drawings.{cell_bit, leaves_of, leaf_number}

-- the bits set below the size are those of these voxels
pub record Drawing (size : Cell) (voxels : List Voxel) (words : List ℕ) : Type 0 where
  pub number : length words ≡ leaves_of size.z * leaves_of size.y * leaves_of size.x
  pub each : (q : Cell) → IsBelow size q → cell_bit size words q ≡ has_voxel voxels q

-- the size in leaves
leaf_size : Cell → Cell
leaf_size size = cell_at (leaves_of size.x) (leaves_of size.y) (leaves_of size.z)

leaf_place : Cell → Cell
leaf_place q = cell_at (q.x / 4) (q.y / 4) (q.z / 4)

leaf_below : (size q : Cell) → IsBelow size q → IsBelow (leaf_size size) (leaf_place q)
unfolding leaf_size leaf_place
leaf_below size q b =
    record { x = omega (arith, b.x); y = omega (arith, b.y); z = omega (arith, b.z) }

-- one bit more

max_test : (p q : ℕ) → p < 2 → q < 2 → (max p q == 1) ≡ ((q == 1) || (p == 1))
max_test zero zero h k = refl
max_test zero (suc zero) h k = refl
max_test (suc zero) zero h k = refl
max_test (suc zero) (suc zero) h k = refl
max_test (suc (suc p)) q h k = absurd (omega arith)
max_test p (suc (suc q)) h k = absurd (omega arith)

equal_test : (m b : ℕ) → m ≡ b → (m == b) ≡ true
equal_test m b e = grind (arith, nat_tests)

other_test : (m b : ℕ) → m ≢ b → (m == b) ≡ false
other_test m b ne = grind (arith, nat_tests)

pow_bit : (b m : ℕ) → (bit_at (2 ^ b) m == 1) ≡ (m == b)
pow_bit b m = elim (cases_eq m b) [
  | inl e ↦ ap (λ (n : ℕ). bit_at (2 ^ b) n == 1) e ∙ ap (λ (n : ℕ). n == 1) (bit_at-pow_same b)
      ∙ sym (equal_test m b e)
  | inr ne ↦ ap (λ (n : ℕ). n == 1) (bit_at-pow_other b m ne) ∙ sym (other_test m b ne)
]

pub set_bit : (word b c m : ℕ) → b ≡ c → b < 64
    → (bit_at (bit_or word (1 * 2 ^ b % 2 ^ 64)) m == 1) ≡ ((m == c) || (bit_at word m == 1))
set_bit word b c m e lt =
    let h : b ≤ 63 = omega arith in
    let p : 2 ^ b ≤ 2 ^ 63 = pow_mono h in
    let r : 1 * 2 ^ b < 2 ^ 64 = omega (arith, p) in
    let u : 1 * 2 ^ b ≡ 2 ^ b = omega arith in
    let q : 1 * 2 ^ b % 2 ^ 64 ≡ 2 ^ b = mod-eq_of_lt r ∙ u in
    ap (λ (n : ℕ). bit_at (bit_or word n) m == 1) q
    ∙ ap (λ (n : ℕ). n == 1) (bit_at_or word (2 ^ b) m)
    ∙ max_test (bit_at word m) (bit_at (2 ^ b) m) (bit_at-lt word m) (bit_at-lt (2 ^ b) m)
    ∙ ap (λ (t : Bool). t || (bit_at word m == 1)) (pow_bit b m ∙ ap (λ (n : ℕ). m == n) e)

-- one voxel more

same_test : (a b : Bool) → (a ≡ true → b ≡ true) → (b ≡ true → a ≡ true) → a ≡ b
same_test true b f h = sym (f refl)
same_test false true f h = h refl
same_test false false f h = refl

or_turned : (a b c : Bool) → b ≡ c → (a || b) ≡ (c || a)
or_turned true true true e = refl
or_turned true false false e = refl
or_turned false true true e = refl
or_turned false false false e = refl
or_turned true true false e = cc
or_turned true false true e = cc
or_turned false true false e = cc
or_turned false false true e = cc

or_none : (a b : Bool) → (b ≡ true → ⊥) → a ≡ (a || b)
or_none a true h = absurd (h refl)
or_none true false h = refl
or_none false false h = refl

reach : (xs : List ℕ) (k d e : ℕ) → k < length xs → get_or xs k d ≡ get_or xs k e
reach [] k d e h = absurd (omega arith)
reach (x ∷ xs) zero d e h = refl
reach (x ∷ xs) (suc k) d e h = reach xs k d e (omega arith)

record SameLeaf (q : Cell) (v : Voxel) : Type 0 where
  x : q.x / 4 ≡ v.x / 4
  y : q.y / 4 ≡ v.y / 4
  z : q.z / 4 ≡ v.z / 4

leaf_same : (size q : Cell) (v : Voxel) → IsBelow size q → IsInsideModel size v
    → leaf_number size (q.x / 4) (q.y / 4) (q.z / 4) ≡ leaf_number size (v.x / 4) (v.y / 4)
    (v.z / 4) → SameLeaf q v
unfolding leaf_size leaf_place
leaf_same size q v b s e =
    let p =
    same_place (leaf_size size) (leaf_place q) (leaf_place (voxel_place v))
    (leaf_below size q b) (leaf_below size (voxel_place v) (place_below size v s)) e in
    record { x = p.0; y = p.1; z = p.2 }

bits_stand : (q : Cell) (v : Voxel) → SameLeaf q v
    →
    (bit_number (q.x % 4) (q.y % 4) (q.z % 4) == bit_number (v.x % 4) (v.y % 4) (v.z % 4))
    ≡ is_voxel_at q v
bits_stand q v l =
    let n : ℕ = bit_number (q.x % 4) (q.y % 4) (q.z % 4) in
    let m : ℕ = bit_number (v.x % 4) (v.y % 4) (v.z % 4) in
    same_test _ _
    (λ e. let h : n
    ≡ m = tested n m e in stands q v (omega (arith, l.x, h)) (omega (arith, l.y, h))
    (omega (arith, l.z, h)))
    (λ e. let t = stands_tells q v e in equal_test n m (omega (arith, t.0, t.1, t.2)))
  where
    tested : (n m : ℕ) → (n == m) ≡ true → n ≡ m
    tested n m e = grind (arith, nat_tests)

pub drawing_more : (size : Cell) (items : List Voxel) (k : ℕ) (d : Voxel) (words : List ℕ)
    (leaf old word : ℕ) → k < length items → IsInsideModel size (get_or items k d)
    → Drawing size (take k items) words
    → leaf ≡ leaf_number size ((get_or items k d).x / 4) ((get_or items k d).y / 4)
    ((get_or items k d).z / 4) → leaf < length words → old ≡ get_or words leaf old
    → ((m : ℕ) → m < 64 → (bit_at word m == 1)
    ≡ ((m == bit_number ((get_or items k d).x % 4) ((get_or items k d).y % 4)
    ((get_or items k d).z % 4)) || (bit_at old m == 1)))
    → Drawing size (take (k + 1) items) (set words leaf word)
drawing_more size items k d words leaf old word lt s so_far e inside was bits = record {
  number = length-set words leaf word ∙ so_far.number;
  each = λ q b. elim (cases_eq (leaf_number size (q.x / 4) (q.y / 4) (q.z / 4)) leaf) [
    | inl same ↦
        let l = leaf_same size q (get_or items k d) b s (same ∙ e) in
        ap (λ (n : ℕ). bit_at (slice_index (set words leaf word) n)
        (bit_number (q.x % 4) (q.y % 4) (q.z % 4)) == 1) same
        ∙ ap (λ (w : ℕ). bit_at w (bit_number (q.x % 4) (q.y % 4) (q.z % 4)) == 1)
        (get_or-set_same words leaf word 0 inside)
        ∙ bits (bit_number (q.x % 4) (q.y % 4) (q.z % 4)) (omega arith)
        ∙ or_turned _ _ _
        (ap (λ (w : ℕ). bit_at w (bit_number (q.x % 4) (q.y % 4) (q.z % 4)) == 1)
        (was ∙ reach words leaf old 0 inside)
        ∙ ap (λ (n : ℕ). bit_at (slice_index words n)
        (bit_number (q.x % 4) (q.y % 4) (q.z % 4)) == 1) (sym same)
        ∙ so_far.each q b)
        ∙ ap (λ (t : Bool). has_voxel (take k items) q || t) (bits_stand q (get_or items k d) l)
        ∙ sym (list_any_more (is_voxel_at q) items k d lt)
    | inr other ↦
        ap (λ (w : ℕ). bit_at w (bit_number (q.x % 4) (q.y % 4) (q.z % 4)) == 1)
        (get_or-set_other words leaf
        (leaf_number size (q.x / 4) (q.y / 4) (q.z / 4)) word 0 other)
        ∙ so_far.each q b
        ∙ or_none _ (is_voxel_at q (get_or items k d))
        (λ t. other (one_leaf q (stands_tells q (get_or items k d) t) ∙ sym e))
        ∙ sym (list_any_more (is_voxel_at q) items k d lt)
  ];
}
  where
    one_leaf : (q : Cell)
        → ((get_or items k d).x ≡ q.x) × ((get_or items k d).y ≡ q.y) × ((get_or items k d).z ≡ q.z)
        → leaf_number size (q.x / 4) (q.y / 4) (q.z / 4) ≡ leaf_number size
        ((get_or items k d).x / 4) ((get_or items k d).y / 4) ((get_or items k d).z / 4)
    one_leaf q t = rw (sym t.0, sym t.1, sym t.2) refl
