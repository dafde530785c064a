-- Words over cubes of leaves: those of two steps taken in one, and what they say of a box.
use Rattle.std.proofs.Common.{◌≡◌, ◌≢◌, ℕ, ◌+◌, ◌*◌, ◌/◌, ◌%◌, ◌^◌, ◌<◌, ◌≤◌, zero, suc, List, length, set, inl, inr, add-one, refl, sym, ◌∙◌, ap, subst, arith, get_or-set_same, get_or-set_other}
use Rattle.std.proofs.Math.Nat.{div-div-eq-div-mul, pow-succ', pow-zero, mod-add-div', mul_comm}
use Rattle.std.proofs.lemmas.Nat.{mul-add-lt}
use Rattle.std.proofs.lemmas.List.{length-set}
use Rattle.std.proofs.lemmas.Bool.{cases_eq}
use Rattle.std.specs.Prelude.{slice_index}
use Rattle.vw_cell.specs.declared.cells.Cell.{Cell}
use Rattle.vw_cell.specs.Counts.{cell_at}
use Rattle.vox_read.proofs.Bounds.{same_place}
use Rattle.edit_stamp.specs.Drawings.{Drawn, leaves_of, leaf_number, AllWords}
use Rattle.edit_stamp.specs.Tiers.{TellsTier, IsLeaf, IsWordOver, half_of, leaf_word}

-- a half of a half
doubled : (a b c : ℕ) → b ≡ 2 * a → c ≡ b → a * 2 ≡ c
doubled a b c e f = omega (arith, e, f)

power_on : (up : ℕ) → 2 ^ up * 2 ≡ 2 ^ (up + 1)
power_on up =
    doubled (2 ^ up) (2 ^ suc up) (2 ^ (up + 1)) (pow-succ' 2 up)
    (ap (λ (n : ℕ). 2 ^ n) (add-one up))

pub halved_on : (i up : ℕ) → i / 2 ^ up / 2 ^ 1 ≡ i / 2 ^ (up + 1)
halved_on i up = div-div-eq-div-mul i (2 ^ up) 2 ∙ ap (λ (n : ℕ). i / n) (power_on up)

pub halves_keep_order : (i j up : ℕ) → i ≤ j → i / 2 ^ up ≤ j / 2 ^ up
halves_keep_order i j zero le =
    subst (λ (n : ℕ). i / n ≤ j / n) (sym (pow-zero 2)) (omega (arith, le))
halves_keep_order i j (suc up) le =
    let h = halves_keep_order i j up le in
    let e : i / 2 ^ up / 2 ≡ i / (2 ^ suc up) =
    div-div-eq-div-mul i (2 ^ up) 2
    ∙ ap (λ (n : ℕ). i / n) (power_on up ∙ ap (λ (n : ℕ). 2 ^ n) (add-one up)) in
    let f : j / 2 ^ up / 2 ≡ j / (2 ^ suc up) =
    div-div-eq-div-mul j (2 ^ up) 2
    ∙ ap (λ (n : ℕ). j / n) (power_on up ∙ ap (λ (n : ℕ). 2 ^ n) (add-one up)) in
    omega (arith, h, e, f)

-- the number of a leaf's place
pub place_number : (size : Cell) (n w d : ℕ) → w ≡ leaves_of size.x → d ≡ leaves_of size.y
    → leaf_number size (n % w) (n / w % d) (n / w / d) ≡ n
place_number size n w d e f =
    let row : n / w / d * d + n / w % d ≡ n / w = omega (arith, mod-add-div' (n / w) d) in
    let all : n / w * w + n % w ≡ n = omega (arith, mod-add-div' n w) in
    ap (λ (k : ℕ). (n / w / d * k + n / w % d) * leaves_of size.x + n % w) (sym f)
    ∙ ap (λ (k : ℕ). (n / w / d * d + n / w % d) * k + n % w) (sym e)
    ∙ ap (λ (k : ℕ). k * w + n % w) row
    ∙ all

leaf_counts : Cell → Cell
leaf_counts size = cell_at (leaves_of size.x) (leaves_of size.y) (leaves_of size.z)

one_place : (size : Cell) (x y z x' y' z' : ℕ) → IsLeaf size x y z → IsLeaf size x' y' z'
    → leaf_number size x y z ≡ leaf_number size x' y' z' → (x ≡ x') × (y ≡ y') × (z ≡ z')
unfolding leaf_counts
one_place size x y z x' y' z' a b e =
    same_place (leaf_counts size) (cell_at x y z) (cell_at x' y' z')
    (record { x = a.0; y = a.1; z = a.2 }) (record { x = b.0; y = b.1; z = b.2 }) e

number_below_all : (size : Cell) (x y z : ℕ) → IsLeaf size x y z
    → leaf_number size x y z < leaves_of size.z * leaves_of size.y * leaves_of size.x
number_below_all size x y z a =
    let row = mul-add-lt z (leaves_of size.y) y (leaves_of size.z) a.2 a.1 in
    let all =
    mul-add-lt (z * leaves_of size.y + y) (leaves_of size.x) x
    (leaves_of size.y * leaves_of size.z) row a.0 in
    subst (λ (n : ℕ). leaf_number size x y z < n)
    (mul_comm (leaves_of size.x) (leaves_of size.y * leaves_of size.z)
    ∙ ap (λ (n : ℕ). n * leaves_of size.x)
    (mul_comm (leaves_of size.y) (leaves_of size.z))) all

-- the words over the cubes before a number
pub record OverBefore (below : Drawn) (half : Cell) (words : List ℕ) (n : ℕ) : Type 0 where
  pub long : length words ≡ leaves_of half.z * leaves_of half.y * leaves_of half.x
  pub over : (x y z : ℕ) → IsLeaf half x y z → leaf_number half x y z < n
      → IsWordOver below x y z (slice_index words (leaf_number half x y z))

-- one word more
pub over_more : (below : Drawn) (half at : Cell) (words : List ℕ) (n word : ℕ)
    → leaf_number half at.x at.y at.z ≡ n → IsLeaf half at.x at.y at.z → n < length words
    → OverBefore below half words n → IsWordOver below at.x at.y at.z word
    → OverBefore below half (set words n word) (n + 1)
over_more below half at words n word e inside lt b over = record {
  long = length-set words n word ∙ b.long;
  over = λ x y z p less. elim (cases_eq (leaf_number half x y z) n) [
    | inl same ↦
        let q = one_place half x y z at.x at.y at.z p inside (same ∙ sym e) in
        let w : slice_index (set words n word) (leaf_number half x y z) ≡ word =
        ap (λ (k : ℕ). slice_index (set words n word) k) same
        ∙ get_or-set_same words n word 0 lt in
        subst (λ (v : ℕ). IsWordOver below x y z v) (sym w)
        (subst (λ (k : ℕ). IsWordOver below k y z word) (sym q.0)
        (subst (λ (k : ℕ). IsWordOver below at.x k z word) (sym q.1)
        (subst (λ (k : ℕ). IsWordOver below at.x at.y k word) (sym q.2) over)))
    | inr other ↦
        subst (λ (v : ℕ). IsWordOver below x y z v)
        (sym (get_or-set_other words n (leaf_number half x y z) word 0 other))
        (b.over x y z p (omega arith))
  ];
}

-- all words over the cubes of a size
pub over_all : (below : Drawn) (half : Cell) (words : List ℕ) (n : ℕ) → half ≡ half_of below.size
    → n ≡ leaves_of half.z * leaves_of half.y * leaves_of half.x → OverBefore below half words n
    → TellsTier below 1 (record { size = half; words = words })
over_all below half words n e all b = record {
  stands = λ i j k p q r. stands i j k p q r;
  each = λ i j k p q r ne.
      let s = stands i j k p q r in
      (b.over (i / 2) (j / 2) (k / 2) s
      (subst (λ (m : ℕ). leaf_number half (i / 2) (j / 2) (k / 2) < m) (sym all)
      (number_below_all half (i / 2) (j / 2)
      (k / 2) s))).each i j k p q r refl refl refl ne;
}
  where
    halves : (i size : ℕ) → i < leaves_of size → i / 2 < leaves_of ((size + 1) / 2)
    halves i size lt = omega arith

    stands : (i j k : ℕ) → i < leaves_of below.size.x → j < leaves_of below.size.y
        → k < leaves_of below.size.z → IsLeaf half (i / 2) (j / 2) (k / 2)
    stands i j k p q r = subst (λ (s : Cell). IsLeaf s (i / 2) (j / 2) (k / 2)) (sym e)
        (halves i below.size.x p, halves j below.size.y q, halves k below.size.z r)

pub tells_on : (drawn tier next : Drawn) (up : ℕ) → TellsTier drawn up tier → TellsTier tier 1 next
    → TellsTier drawn (up + 1) next
tells_on drawn tier next up t n = record {
  stands = λ i j k p q r.
      let s = t.stands i j k p q r in
      let m = n.stands _ _ _ s.0 s.1 s.2 in (
        subst (λ (a : ℕ). a < leaves_of next.size.x) (halved_on i up) m.0,
        subst
            (λ (a : ℕ). a < leaves_of next.size.y) (halved_on j up) m.1,
        subst
            (λ (a : ℕ). a < leaves_of next.size.z) (halved_on k up) m.2,
      );
  each = λ i j k p q r ne.
      let s = t.stands i j k p q r in
      let e : leaf_word next (i / 2 ^ up / 2 ^ 1) (j / 2 ^ up / 2 ^ 1) (k / 2 ^ up / 2 ^ 1) ≡ leaf_word next (i / 2 ^ (up + 1)) (j / 2 ^ (up + 1)) (k / 2 ^ (up + 1)) = rw (halved_on i up, halved_on j up, halved_on k up) refl in
      let f = n.each _ _ _ s.0 s.1 s.2 (λ h. ne (sym e ∙ h)) in
      t.each i j k p q r (λ h. ne (sym (f ∙ e) ∙ h)) ∙ f ∙ e;
}

-- the words of a box of cubes say those of its leaves
pub leaves_under : (drawn tier : Drawn) (up : ℕ) (from to over_from over_to : Cell) (want : ℕ)
    → TellsTier drawn up tier → AllWords tier.size tier.words over_from over_to want → want ≢ 1
    → (to.x ≤ leaves_of drawn.size.x) × (to.y ≤ leaves_of drawn.size.y)
    × (to.z ≤ leaves_of drawn.size.z)
    → ((i : ℕ) → from.x ≤ i → i < to.x → (over_from.x ≤ i / 2 ^ up) × (i / 2 ^ up < over_to.x))
    → ((i : ℕ) → from.y ≤ i → i < to.y → (over_from.y ≤ i / 2 ^ up) × (i / 2 ^ up < over_to.y))
    → ((i : ℕ) → from.z ≤ i → i < to.z → (over_from.z ≤ i / 2 ^ up) × (i / 2 ^ up < over_to.z))
    → AllWords drawn.size drawn.words from to want
leaves_under drawn tier up from to over_from over_to want t words ne inside ex ey ez = record {
  each = λ x y z px qx py qy pz qz.
      let a = ex x px qx in
      let b = ey y py qy in
      let c = ez z pz qz in
      let w = words.each _ _ _ a.0 a.1 b.0 b.1 c.0 c.1 in
      t.each x y z (omega (arith, inside.0, qx)) (omega (arith, inside.1, qy))
      (omega (arith, inside.2, qz)) (λ h. ne (sym w ∙ h)) ∙ w;
}
