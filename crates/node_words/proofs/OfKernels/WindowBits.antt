-- The bits of a leaf that lies across eight others, axis by axis.
use Rattle.std.proofs.Common.{◌≡◌, ℕ, zero, suc, ◌+◌, ◌-◌, ◌*◌, ◌/◌, ◌%◌, ◌^◌, ◌<◌, ◌≤◌, true, false, List, ◌==◌, refl, ap, sym, ◌∙◌, arith, inl, inr, min, max, add-zero, ◌≢◌}
use Rattle.std.specs.Prelude.{bit_and, bit_or, slice_index}
use Rattle.std.specs.Int.{bit_at, bit_not, w64}
use Rattle.std.proofs.lemmas.Bool.{cases_lt, eqb-true, eqb-false}
use Rattle.std.proofs.lemmas.Nat.{shr-shr, div-add-mod', pow_pos}
use Rattle.std.proofs.lemmas.Nat.Bits.{bit_at_or, bit_at_and, bit_at_not, bit_at-lt, bit_at_cat_high, bit_at_cat_low}
use Rattle.node_words.specs.shapes.Shape.{bit_number}
use Rattle.node_words.proofs.OfKernels.BitRuns.{from_to, past_to}
use Rattle.node_words.specs.kernels.Leaves.{LiesAcross}
use Rattle.node_words.specs.kernels.Parts.{AxisShows, x_of, y_of, z_of, either, SlidesX, SlidesY, SlidesZ, Mixes}

-- a shift down, and a shift up
down_bit : (n k i : ℕ) → bit_at (n / 2 ^ k) i ≡ bit_at n (k + i)
down_bit n k i = ap (λ (m : ℕ). m % 2) (shr-shr n k i)

mod_bit : (n w i : ℕ) → i < w → bit_at (n % 2 ^ w) i ≡ bit_at n i
mod_bit n w i h =
    sym (bit_at_cat_low (n / 2 ^ w) w (n % 2 ^ w) i h)
    ∙ ap (λ (m : ℕ). bit_at m i) (div-add-mod' n (2 ^ w))

up_bit : (n k i : ℕ) → i < 64 → k ≤ i → bit_at (n * 2 ^ k % 2 ^ 64) i ≡ bit_at n (i - k)
up_bit n k i h le =
    let whole : n * 2 ^ k ≡ n * 2 ^ k + 0 = sym (add-zero (n * 2 ^ k)) in
    mod_bit (n * 2 ^ k) 64 i h ∙ ap (λ (m : ℕ). bit_at m i) whole
    ∙ bit_at_cat_high n k 0 i (pow_pos k) le

taken : (a b m : ℕ) → a < 2 → b < 2 → (m == 1) ≡ true → max (min a m) (min b (1 - m)) ≡ a
taken a b m p q e = let one : m ≡ 1 = eqb-true m 1 e in omega arith

left_out : (a b m : ℕ) → a < 2 → b < 2 → m < 2 → (m == 1) ≡ false
    → max (min a m) (min b (1 - m)) ≡ b
left_out a b m p q small e = let none : m ≢ 1 = eqb-false m 1 e in omega arith

mixed_bit : (a b mask i : ℕ) → mask < 2 ^ 64 → i < 64
    → bit_at (bit_or (bit_and a mask) (bit_and b (2 ^ 64 - 1 - mask))) i ≡ max
    (min (bit_at a i) (bit_at mask i)) (min (bit_at b i) (1 - bit_at mask i))
mixed_bit a b mask i small h =
    bit_at_or (bit_and a mask) (bit_and b (bit_not w64 mask)) i
    ∙ ap (λ (n : ℕ). max n (bit_at (bit_and b (bit_not w64 mask)) i)) (bit_at_and a mask i)
    ∙ ap (max (min (bit_at a i) (bit_at mask i)))
    (bit_at_and b (bit_not w64 mask) i ∙ ap (min (bit_at b i)) (bit_at_not w64 mask i small h))

pub mixes : (low high mask down up : ℕ) → mask < 2 ^ 64
    → Mixes
    (bit_or (bit_and (low / 2 ^ down) mask)
    (bit_and (high * 2 ^ up % 2 ^ 64) (2 ^ 64 - 1 - mask))) low high mask down up
mixes low high mask down up small = record {
  from_low = λ i h set.
      mixed_bit (low / 2 ^ down) (high * 2 ^ up % 2 ^ 64) mask i small h
      ∙ taken (bit_at (low / 2 ^ down) i) (bit_at (high * 2 ^ up % 2 ^ 64) i) (bit_at mask i)
      (bit_at-lt _ i) (bit_at-lt _ i) set
      ∙ down_bit low down i;
  from_high = λ i h clear above.
      mixed_bit (low / 2 ^ down) (high * 2 ^ up % 2 ^ 64) mask i small h
      ∙ left_out (bit_at (low / 2 ^ down) i) (bit_at (high * 2 ^ up % 2 ^ 64) i) (bit_at mask i)
      (bit_at-lt _ i) (bit_at-lt _ i) (bit_at-lt _ i) clear
      ∙ up_bit high up i h above;
}

-- which of two leaves has the place
of_first : (low high p i : ℕ) → p < 4 → bit_at low i ≡ bit_at (either low high (p / 4)) i
of_first low high p i h =
    let e : 0 ≡ p / 4 = omega arith in ap (λ (q : ℕ). bit_at (either low high q) i) e

of_second : (low high p i : ℕ) → 4 ≤ p → p < 8 → bit_at high i ≡ bit_at (either low high (p / 4)) i
of_second low high p i h k =
    let e : 1 ≡ p / 4 = omega arith in ap (λ (q : ℕ). bit_at (either low high q) i) e

pub stays_x : (low high by : ℕ) → by ≡ 0 → SlidesX low low high by
stays_x low high by e = record {
  each = λ x y z lx ly lz.
      let place : bit_number x y z ≡ bit_number ((x + by) % 4) y z = omega arith in
      ap (bit_at low) place ∙ of_first low high (x + by) _ (omega arith);
}

pub stays_y : (low high by : ℕ) → by ≡ 0 → SlidesY low low high by
stays_y low high by e = record {
  each = λ x y z lx ly lz.
      let place : bit_number x y z ≡ bit_number x ((y + by) % 4) z = omega arith in
      ap (bit_at low) place ∙ of_first low high (y + by) _ (omega arith);
}

pub stays_z : (low high by : ℕ) → by ≡ 0 → SlidesZ low low high by
stays_z low high by e = record {
  each = λ x y z lx ly lz.
      let place : bit_number x y z ≡ bit_number x y ((z + by) % 4) = omega arith in
      ap (bit_at low) place ∙ of_first low high (z + by) _ (omega arith);
}

pub slides_x : (bits low high mask by : ℕ) → by < 4 → AxisShows mask x_of 0 (4 - by)
    → Mixes bits low high mask by (4 - by) → SlidesX bits low high by
slides_x bits low high mask by h shows mix = record {
  each = λ x y z lx ly lz.
      elim (cases_lt (x + by) 4) [
        | inl near ↦
            let set : (bit_at mask (bit_number x y z) == 1) ≡ true = shows.each x y z lx ly lz ∙ from_to 0 (4 - by) x (omega arith) (omega arith) in
            let place : by + bit_number x y z ≡ bit_number ((x + by) % 4) y z = omega arith in
            mix.from_low (bit_number x y z) (omega arith) set ∙ ap (bit_at low) place
            ∙ of_first low high (x + by) _ near
        | inr far ↦
            let clear : (bit_at mask (bit_number x y z) == 1) ≡ false = shows.each x y z lx ly lz ∙ past_to 0 (4 - by) x (omega arith) in
            let place : bit_number x y z - (4 - by) ≡ bit_number ((x + by) % 4) y z = omega arith in
            mix.from_high (bit_number x y z) (omega arith) clear (omega arith)
            ∙ ap (bit_at high) place ∙ of_second low high (x + by) _ far (omega arith)
      ];
}

pub slides_y : (bits low high mask by : ℕ) → by < 4 → AxisShows mask y_of 0 (4 - by)
    → Mixes bits low high mask (4 * by) (4 * (4 - by)) → SlidesY bits low high by
slides_y bits low high mask by h shows mix = record {
  each = λ x y z lx ly lz.
      elim (cases_lt (y + by) 4) [
        | inl near ↦
            let set : (bit_at mask (bit_number x y z) == 1) ≡ true = shows.each x y z lx ly lz ∙ from_to 0 (4 - by) y (omega arith) (omega arith) in
            let place : (4 * by) + bit_number x y z ≡ bit_number x ((y + by) % 4) z = omega arith in
            mix.from_low (bit_number x y z) (omega arith) set ∙ ap (bit_at low) place
            ∙ of_first low high (y + by) _ near
        | inr far ↦
            let clear : (bit_at mask (bit_number x y z) == 1) ≡ false = shows.each x y z lx ly lz ∙ past_to 0 (4 - by) y (omega arith) in
            let place : bit_number x y z - (4 * (4 - by)) ≡ bit_number x ((y + by) % 4) z =
            omega arith in
            mix.from_high (bit_number x y z) (omega arith) clear (omega arith)
            ∙ ap (bit_at high) place ∙ of_second low high (y + by) _ far (omega arith)
      ];
}

pub slides_z : (bits low high mask by : ℕ) → by < 4 → AxisShows mask z_of 0 (4 - by)
    → Mixes bits low high mask (16 * by) (16 * (4 - by)) → SlidesZ bits low high by
slides_z bits low high mask by h shows mix = record {
  each = λ x y z lx ly lz.
      elim (cases_lt (z + by) 4) [
        | inl near ↦
            let set : (bit_at mask (bit_number x y z) == 1) ≡ true = shows.each x y z lx ly lz ∙ from_to 0 (4 - by) z (omega arith) (omega arith) in
            let place : (16 * by) + bit_number x y z ≡ bit_number x y ((z + by) % 4) =
            omega arith in
            mix.from_low (bit_number x y z) (omega arith) set ∙ ap (bit_at low) place
            ∙ of_first low high (z + by) _ near
        | inr far ↦
            let clear : (bit_at mask (bit_number x y z) == 1) ≡ false = shows.each x y z lx ly lz ∙ past_to 0 (4 - by) z (omega arith) in
            let place : bit_number x y z - (16 * (4 - by)) ≡ bit_number x y ((z + by) % 4) =
            omega arith in
            mix.from_high (bit_number x y z) (omega arith) clear (omega arith)
            ∙ ap (bit_at high) place ∙ of_second low high (z + by) _ far (omega arith)
      ];
}

-- the leaf of an octant, by its halves
leaf_of : (leaves : List ℕ) (i j k : ℕ) → i < 2 → j < 2 → k < 2
    → either
    (either (either (slice_index leaves 0) (slice_index leaves 1) i)
    (either (slice_index leaves 2) (slice_index leaves 3) i) j)
    (either (either (slice_index leaves 4) (slice_index leaves 5) i)
    (either (slice_index leaves 6) (slice_index leaves 7) i) j) k
    ≡ slice_index leaves (i + 2 * j + 4 * k)
leaf_of leaves zero zero zero p q r = refl
leaf_of leaves (suc zero) zero zero p q r = refl
leaf_of leaves zero (suc zero) zero p q r = refl
leaf_of leaves (suc zero) (suc zero) zero p q r = refl
leaf_of leaves zero zero (suc zero) p q r = refl
leaf_of leaves (suc zero) zero (suc zero) p q r = refl
leaf_of leaves zero (suc zero) (suc zero) p q r = refl
leaf_of leaves (suc zero) (suc zero) (suc zero) p q r = refl
leaf_of leaves (suc (suc i)) j k p q r = absurd (omega arith)
leaf_of leaves i (suc (suc j)) k p q r = absurd (omega arith)
leaf_of leaves i j (suc (suc k)) p q r = absurd (omega arith)

-- a fact of both is one of either
of_either : (a b a' b' i i' : ℕ) (k : ℕ) → bit_at a i ≡ bit_at a' i' → bit_at b i ≡ bit_at b' i'
    → bit_at (either a b k) i ≡ bit_at (either a' b' k) i'
of_either a b a' b' i i' zero p q = p
of_either a b a' b' i i' (suc k) p q = q

pub lies_across : (leaves : List ℕ) (dx dy dz a b c d near far bits : ℕ) → dx < 4 → dy < 4 → dz < 4
    → SlidesX a (slice_index leaves 0) (slice_index leaves 1) dx
    → SlidesX b (slice_index leaves 2) (slice_index leaves 3) dx
    → SlidesX c (slice_index leaves 4) (slice_index leaves 5) dx
    → SlidesX d (slice_index leaves 6) (slice_index leaves 7) dx
    → SlidesY near a b dy → SlidesY far c d dy → SlidesZ bits near far dz
    → LiesAcross leaves dx dy dz bits
lies_across leaves dx dy dz a b c d near far bits lx ly lz sa sb sc sd sn sf sz = record {
  each = λ x y z px py pz.
      let j : ℕ = (y + dy) / 4 in
      let k : ℕ = (z + dz) / 4 in
      let y' : ℕ = (y + dy) % 4 in
      let z' : ℕ = (z + dz) % 4 in
      let qy : y' < 4 = omega arith in
      let qz : z' < 4 = omega arith in
      sz.each x y z px py pz
      ∙ of_either near far _ _ _ _ k (sn.each x y z' px py qz) (sf.each x y z' px py qz)
      ∙ of_either _ _ _ _ _ _ k
      (of_either a b _ _ _ _ j (sa.each x y' z' px qy qz) (sb.each x y' z' px qy qz))
      (of_either c d _ _ _ _ j (sc.each x y' z' px qy qz) (sd.each x y' z' px qy qz))
      ∙ ap (λ (n : ℕ). bit_at n (bit_number ((x + dx) % 4) y' z'))
      (leaf_of leaves ((x + dx) / 4) j k (omega arith) (omega arith) (omega arith));
}
