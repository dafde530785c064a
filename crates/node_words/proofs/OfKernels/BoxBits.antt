-- The bits of a box, axis by axis.
use Rattle.std.proofs.Common.{◌≡◌, ℕ, ◌+◌, ◌-◌, ◌*◌, ◌/◌, ◌%◌, ◌^◌, ◌<◌, ◌≤◌, Bool, ◌==◌, refl, ap, sym, ◌∙◌, arith, min}
use Rattle.std.specs.Prelude.{bit_and, ◌&&◌}
use Rattle.std.specs.Int.{bit_at}
use Rattle.std.proofs.lemmas.Bool.Decides.{nat_tests}
use Rattle.std.proofs.lemmas.Nat.{one_shl, pow_pos}
use Rattle.std.proofs.lemmas.Nat.Bits.{bit_at-zero}
use lib.Pow.{pow_mono}
use Rattle.node_words.specs.Boxed.{Boxed}
use Rattle.node_words.specs.Block.{Block}
use Rattle.node_words.specs.Places.{is_within, is_in_box}
use Rattle.node_words.specs.shapes.Shape.{bit_number}
use Rattle.node_words.specs.kernels.Leaves.{LeafShows}
use Rattle.node_words.specs.kernels.Parts.{AxisShows, is_from_below, x_of, y_of, z_of}
use Rattle.node_words.specs.Runs.{mask_is}
use Rattle.node_words.proofs.OfKernels.BitRuns.{run_has, rows_have, layers_have, and_has}

pub run_within : (low size at from to i : ℕ) → to ≡ min (low + size - at) 4
    → from ≡ min (low - at) to → i < 4 → is_within low size (at + i) ≡ is_from_below from to i
run_within low size at from to i p q h = grind (arith, nat_tests)

-- what the difference of two shifted ones comes to
pub run_of : (from to : ℕ) → from ≤ to → to < 64
    → 1 * 2 ^ to % 2 ^ 64 - 1 * 2 ^ from % 2 ^ 64 ≡ 2 ^ to - 2 ^ from
run_of from to p q = rw (one_shl to 64 q, one_shl from 64 (omega arith)) refl

pub run_ordered : (from to : ℕ) → from ≤ to → to < 64 → 1 * 2 ^ from % 2 ^ 64 ≤ 1 * 2 ^ to % 2 ^ 64
run_ordered from to p q = rw (one_shl to 64 q, one_shl from 64 (omega arith)) (pow_mono p)

run_below : (from to top : ℕ) → from ≤ to → to ≤ top → top < 64
    → 1 * 2 ^ to % 2 ^ 64 - 1 * 2 ^ from % 2 ^ 64 < 2 ^ top
run_below from to top p q r =
    let high : 2 ^ to ≤ 2 ^ top = pow_mono q in
    let some : 0 < 2 ^ from = pow_pos from in
    let most : 0 < 2 ^ top = pow_pos top in
    let e = run_of from to p (omega arith) in
    omega (arith, high, some, most, e)

pub rows_fit : (from to : ℕ) → from ≤ to → to ≤ 4
    → (1 * 2 ^ to % 2 ^ 64 - 1 * 2 ^ from % 2 ^ 64) * 0x1111_1111_1111_1111 < 2 ^ 64
rows_fit from to p q = let below = run_below from to 4 p q (omega arith) in omega (arith, below)

pub layers_fit : (from to : ℕ) → from ≤ to → to ≤ 4
    → (1 * 2 ^ (4 * to) % 2 ^ 64 - 1 * 2 ^ (4 * from) % 2 ^ 64) * 0x0001_0001_0001_0001 < 2 ^ 64
layers_fit from to p q =
    let below = run_below (4 * from) (4 * to) 16 (omega arith) (omega arith) (omega arith) in omega
    (arith, below)

same_from_to : (from to p from' to' p' : ℕ) → (from' ≤ p' → from ≤ p) → (from ≤ p → from' ≤ p')
    → (p' < to' → p < to) → (p < to → p' < to')
    → is_from_below from' to' p' ≡ is_from_below from to p
same_from_to from to p from' to' p' a b c d = grind (arith, nat_tests)

bit_of : (a b : ℕ) (i : ℕ) → a ≡ b → (bit_at a i == 1) ≡ (bit_at b i == 1)
bit_of a b i e = ap (λ (n : ℕ). bit_at n i == 1) e

pub x_shows : (from to : ℕ) → from ≤ to → to ≤ 4
    → AxisShows ((1 * 2 ^ to % 2 ^ 64 - 1 * 2 ^ from % 2 ^ 64) * 0x1111_1111_1111_1111) x_of from to
x_shows from to p q = record {
  each = λ x y z lx ly lz.
      let m : ℕ = 1 * 2 ^ to % 2 ^ 64 - 1 * 2 ^ from % 2 ^ 64 in
      let place : bit_number x y z ≡ (y + 4 * z) * 4 + x = omega arith in
      let small : m < 2 ^ 4 = run_below from to 4 p q (omega arith) in
      ap (λ (i : ℕ). bit_at (m * 0x1111_1111_1111_1111) i == 1) place
      ∙ ap (λ (b : ℕ). b == 1) (rows_have m (y + 4 * z) x small (omega arith) lx)
      ∙ bit_of m (2 ^ to - 2 ^ from) x (run_of from to p (omega arith))
      ∙ run_has from to x;
}

pub y_shows : (from to : ℕ) → from ≤ to → to ≤ 4
    → AxisShows
    ((1 * 2 ^ (4 * to) % 2 ^ 64 - 1 * 2 ^
    (4 * from) % 2 ^ 64) * 0x0001_0001_0001_0001) y_of from to
y_shows from to p q = record {
  each = λ x y z lx ly lz.
      let m : ℕ = 1 * 2 ^ (4 * to) % 2 ^ 64 - 1 * 2 ^ (4 * from) % 2 ^ 64 in
      let place : bit_number x y z ≡ z * 16 + (x + 4 * y) = omega arith in
      let small : m < 2 ^ 16 =
      run_below (4 * from) (4 * to) 16 (omega arith) (omega arith) (omega arith) in
      ap (λ (i : ℕ). bit_at (m * 0x0001_0001_0001_0001) i == 1) place
      ∙ ap (λ (b : ℕ). b == 1) (layers_have m z (x + 4 * y) small lz (omega arith))
      ∙ bit_of m (2 ^ (4 * to) - 2 ^ (4 * from)) (x + 4 * y)
      (run_of (4 * from) (4 * to) (omega arith) (omega arith))
      ∙ run_has (4 * from) (4 * to) (x + 4 * y)
      ∙ same_from_to from to y (4 * from) (4 * to) (x + 4 * y) (λ h. omega arith) (λ h. omega arith)
      (λ h. omega arith) (λ h. omega arith);
}

pub z_shows : (from to : ℕ) → from < to → to ≤ 4
    → AxisShows ((2 ^ 64 - 1) / 2 ^ (64 - 16 * (to - from)) * 2 ^ (16 * from) % 2 ^ 64) z_of from to
z_shows from to p q = record {
  each = λ x y z lx ly lz.
      let end : 16 * from + 16 * (to - from) ≡ 16 * to = omega arith in
      bit_of _ _ (bit_number x y z)
      (mask_is (16 * from) (16 * (to - from)) (omega arith)
      ∙ ap (λ (n : ℕ). 2 ^ n - 2 ^ (16 * from)) end)
      ∙ run_has (16 * from) (16 * to) (bit_number x y z)
      ∙ same_from_to from to z (16 * from) (16 * to) (bit_number x y z) (λ h. omega arith)
      (λ h. omega arith) (λ h. omega arith) (λ h. omega arith);
}

nothing_in : (from to p : ℕ) → to ≤ from → (0 == 1) ≡ is_from_below from to p
nothing_in from to p h = grind (arith, nat_tests)

pub none_shows : (from to : ℕ) → to ≤ from → AxisShows 0 z_of from to
none_shows from to p = record {
  each = λ x y z lx ly lz. ap (λ (b : ℕ). b == 1) (bit_at-zero (bit_number x y z))
      ∙ nothing_in from to z p;
}

pub box_shows : (b : Boxed) (block : Block) (x y z fx tx fy ty fz tz : ℕ) → AxisShows x x_of fx tx
    → AxisShows y y_of fy ty → AxisShows z z_of fz tz
    → ((i : ℕ) → i < 4 → is_within b.at.x b.size.x (block.at.x + i) ≡ is_from_below fx tx i)
    → ((i : ℕ) → i < 4 → is_within b.at.y b.size.y (block.at.y + i) ≡ is_from_below fy ty i)
    → ((i : ℕ) → i < 4 → is_within b.at.z b.size.z (block.at.z + i) ≡ is_from_below fz tz i)
    → LeafShows (bit_and (bit_and x y) z) block (is_in_box b)
box_shows b block x y z fx tx fy ty fz tz px py pz wx wy wz = record {
  each = λ i j k li lj lk.
      let n : ℕ = bit_number i j k in
      let of_x : (bit_at x n == 1) ≡ is_within b.at.x b.size.x (block.at.x + i) = px.each i j k li lj lk ∙ sym (wx i li) in
      let of_y : (bit_at y n == 1) ≡ is_within b.at.y b.size.y (block.at.y + j) = py.each i j k li lj lk ∙ sym (wy j lj) in
      let of_z : (bit_at z n == 1) ≡ is_within b.at.z b.size.z (block.at.z + k) = pz.each i j k li lj lk ∙ sym (wz k lk) in
      and_has (bit_and x y) z n
      ∙ ap (λ (t : Bool). t && (bit_at z n == 1))
      (and_has x y n ∙ ap (λ (t : Bool). t && (bit_at y n == 1)) of_x
      ∙ ap (λ (t : Bool). is_within b.at.x b.size.x (block.at.x + i) && t) of_y)
      ∙ ap
      (λ (t : Bool). is_within b.at.x b.size.x (block.at.x + i)
      && is_within b.at.y b.size.y (block.at.y + j) && t) of_z;
}
