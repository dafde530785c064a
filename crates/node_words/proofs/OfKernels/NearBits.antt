-- Sums of a layer's cells, moved up so that they are numbers of 16 bits.
use Rattle.std.proofs.Common.{
  ◌≡◌,
  ℕ,
  zero,
  suc,
  inl,
  inr,
  ◌+◌,
  ◌-◌,
  ◌*◌,
  ◌/◌,
  ◌%◌,
  ◌^◌,
  ◌<◌,
  ◌≤◌,
  List,
  ◌∷◌,
  [],
  ◌==◌,
  Bool,
  false,
  refl,
  subst,
  ap,
  ◌∙◌,
  arith,
  min,
  map,
  get_or,
  length,
}
use Rattle.std.specs.Prelude.{nat_le, slice_index}
use Rattle.std.specs.Int.{bit_at, abs_diff}
use Rattle.std.proofs.lemmas.Bool.Decides.{nat_tests}
use Rattle.std.proofs.lemmas.Bool.{cases_lt}
use Rattle.std.proofs.Math.Nat.{mul-le-mul, add-mul, mul-add, mul_comm}
use Rattle.std.proofs.lemmas.Simd.{bit_mask_l, mask_l-lt}
use Rattle.std.proofs.lemmas.List.{get_or-map, length-map}
use lib.Lanes.{mask_l}
use lib.Dec.{leb}
use Rattle.node_words.specs.Ball.{Ball}
use Rattle.node_words.specs.Block.{Block}
use Rattle.node_words.specs.Places.{is_in_ball, square}
use Rattle.node_words.specs.shapes.Shape.{bit_number}
use Rattle.node_words.specs.kernels.Leaves.{LeafShows}
use Rattle.node_words.specs.kernels.Parts.{AreLanes, AreSums, LanesShow, FourBeside, growth}
use Rattle.node_words.proofs.OfKernels.BallBits.{set_when}

pub square_fits : (n : ℕ) → n ≤ 65535 → n * n ≤ 65535 * 65535
square_fits n h = mul-le-mul h h

within_left : (n less most left : ℕ) → 1 ≤ n → n ≤ 65535 → left ≡ min (most - less) 65535
    → leb n left ≡ nat_le (n + less) most
within_left n less most left some fits e = grind (arith, nat_tests)

-- the mask of sixteen tests against what is left
pub lanes_show : (bits : ℕ) (lanes : List ℕ) (less most left : ℕ) → AreLanes lanes
    → left ≡ min (most - less) 65535 → bits ≡ mask_l (map (λ (n : ℕ). leb n left) lanes)
    → LanesShow bits lanes less most
lanes_show bits lanes less most left small el e = record {
  each = λ i lt.
      let inside : i < length lanes = rw small.sixteen lt in
      let p : ℕ → Bool = λ n. leb n left in
      ap (λ (n : ℕ). bit_at n i == 1) e
      ∙ ap (λ (n : ℕ). n == 1) (bit_mask_l (map p lanes) i)
      ∙ set_when (get_or (map p lanes) i false)
      ∙ get_or-map p lanes i 0 false inside
      ∙ within_left (slice_index lanes i) less most left (small.some i lt) (small.fit i lt) el;
}

pub lanes_fit : (bits : ℕ) (lanes : List ℕ) (left : ℕ) → AreLanes lanes
    → bits ≡ mask_l (map (λ (n : ℕ). leb n left) lanes) → bits < 2 ^ 16
lanes_fit bits lanes left small e =
    let p : ℕ → Bool = λ n. leb n left in
    let long : length (map p lanes) ≡ 16 = simp length-map small.sixteen in
    let below : mask_l (map p lanes) < 2 ^ length (map p lanes) = mask_l-lt (map p lanes) in
    rw e (rw long at below)

-- one lane, as it is computed
abbrev lane : ℕ → ℕ → ℕ → ℕ → ℕ → ℕ
lane x y u v move = ((x * u % 65536 + y * v % 65536) % 65536 + move) % 65536

abbrev lanes_of : ℕ → ℕ → List ℕ
lanes_of x y =
    lane x y 0 0 24577 ∷ lane x y 2 0 20482 ∷ lane x y 4 0 16389 ∷ lane x y 6 0 12298
    ∷ lane x y 0 2 20482 ∷ lane x y 2 2 16387 ∷ lane x y 4 2 12294 ∷ lane x y 6 2 8203
    ∷ lane x y 0 4 16389 ∷ lane x y 2 4 12294 ∷ lane x y 4 4 8201 ∷ lane x y 6 4 4110
    ∷ lane x y 0 6 12298 ∷ lane x y 2 6 8203 ∷ lane x y 4 6 4110 ∷ lane x y 6 6 19 ∷ []

lanes_are : (x y : ℕ) → x < 4096 → y < 4096 → (i j : ℕ) → i < 4 → j < 4
    → slice_index (lanes_of x y) (i + 4 * j) + 4096 * (i + j) ≡ 24577 + growth x i + growth y j
lanes_are x y hx hy i j = each i j
  where
    each : (i j : ℕ) → i < 4 → j < 4
        → slice_index (lanes_of x y) (i + 4 * j) + 4096 * (i + j) ≡ 24577 + growth x i + growth y j
    each zero zero p q = omega arith
    each (suc zero) zero p q = omega arith
    each (suc (suc zero)) zero p q = omega arith
    each (suc (suc (suc zero))) zero p q = omega arith
    each zero (suc zero) p q = omega arith
    each (suc zero) (suc zero) p q = omega arith
    each (suc (suc zero)) (suc zero) p q = omega arith
    each (suc (suc (suc zero))) (suc zero) p q = omega arith
    each zero (suc (suc zero)) p q = omega arith
    each (suc zero) (suc (suc zero)) p q = omega arith
    each (suc (suc zero)) (suc (suc zero)) p q = omega arith
    each (suc (suc (suc zero))) (suc (suc zero)) p q = omega arith
    each zero (suc (suc (suc zero))) p q = omega arith
    each (suc zero) (suc (suc (suc zero))) p q = omega arith
    each (suc (suc zero)) (suc (suc (suc zero))) p q = omega arith
    each (suc (suc (suc zero))) (suc (suc (suc zero))) p q = omega arith
    each (suc (suc (suc (suc i)))) j p q = absurd (omega arith)
    each i (suc (suc (suc (suc j)))) p q = absurd (omega arith)

growth_below : (x i : ℕ) → x < 4096 → i < 4 → growth x i ≤ 8192 * i + 9
growth_below x zero hx h = omega arith
growth_below x (suc zero) hx h = omega arith
growth_below x (suc (suc zero)) hx h = omega arith
growth_below x (suc (suc (suc zero))) hx h = omega arith
growth_below x (suc (suc (suc (suc i)))) hx h = absurd (omega arith)

between : (n i j p q : ℕ) → i < 4 → j < 4 → n + 4096 * (i + j) ≡ 24577 + p + q
    → p ≤ 8192 * i + 9 → q ≤ 8192 * j + 9 → (1 ≤ n) × (n ≤ 65535)
between n i j p q hi hj e hp hq = (omega arith, omega arith)

lane_fits : (x y : ℕ) → x < 4096 → y < 4096 → (k : ℕ) → k < 16
    → (1 ≤ slice_index (lanes_of x y) k) × (slice_index (lanes_of x y) k ≤ 65535)
lane_fits x y hx hy k h =
    let i = k % 4 in
    let j = k / 4 in
    let place : i + 4 * j ≡ k = omega arith in
    let hi : i < 4 = omega arith in
    let hj : j < 4 = omega arith in
    let both = between (slice_index (lanes_of x y) (i + 4 * j)) i j (growth x i) (growth y j) hi hj
    (lanes_are x y hx hy i j hi hj) (growth_below x i hx hi) (growth_below y j hy hj) in
    subst (λ (m : ℕ). (1 ≤ slice_index (lanes_of x y) m) × (slice_index (lanes_of x y) m ≤ 65535))
    place both

pub sums_are : (x y : ℕ) → x < 4096 → y < 4096 → AreSums (lanes_of x y) x y
sums_are x y hx hy = record {
  small = record {
    sixteen = refl;
    some = λ k h. (lane_fits x y hx hy k h).0;
    fit = λ k h. (lane_fits x y hx hy k h).1;
  };
  each = λ i j p q. lanes_are x y hx hy i j p q;
}

square_sum : (a b : ℕ) → square (a + b) ≡ square a + 2 * (a * b) + square b
square_sum a b = omega (arith, add-mul a b (a + b), mul-add a a b, mul-add b a b, mul_comm b a)

moved_up : (d m : ℕ) → square d + 2 * ((d + m) * m) ≡ square m + square (d + m)
moved_up d m = omega (arith, square_sum d m, add-mul d m m)

from_below : (d m : ℕ) → d + m ≡ 2048 → square d + 4096 * m ≡ square m + 2048 * 2048
from_below d m e =
    let s : square d + 2 * (2048 * m) ≡ square m + 2048 * 2048 =
    subst (λ (b : ℕ). square d + 2 * (b * m) ≡ square m + square b) e (moved_up d m) in
    omega (arith, s)

from_above : (d m : ℕ) → 2048 + d ≡ m → square d + 4096 * m ≡ square m + 2048 * 2048
from_above d m e =
    let s : square m ≡ 2048 * 2048 + 2 * (2048 * d) + square d =
    subst (λ (b : ℕ). square b ≡ 2048 * 2048 + 2 * (2048 * d) + square d) e (square_sum 2048 d) in
    omega (arith, s, e)

-- the square of a distance, by what the corner's place, moved up, grows by
squared_from : (centre at x i : ℕ) → x + centre ≡ at + 2048
    → square (abs_diff centre (at + i)) + 4096 * (x + i) ≡ square x + growth x i + 2048 * 2048
squared_from centre at x i e =
    let s : square (abs_diff centre (at + i)) + 4096 * (x + i) ≡ square (x + i) + 2048 * 2048 =
    elim (cases_lt (x + i) 2048) [
      | inl below ↦ from_below (abs_diff centre (at + i)) (x + i) (omega arith)
      | inr above ↦ from_above (abs_diff centre (at + i)) (x + i) (omega arith)
    ]
    in
    omega (arith, s, square_sum x i)

-- one cell's test, with all numbers moved up
told : (sx sy sz xx yy zz gx gy gz x y z i j k n less most reach q p : ℕ)
    → sx + 4096 * (x + i) ≡ xx + gx + 2048 * 2048 → sy + 4096 * (y + j) ≡ yy + gy + 2048 * 2048
    → sz + 4096 * (z + k) ≡ zz + gz + 2048 * 2048 → n + 4096 * (i + j) ≡ 24577 + gx + gy
    → less ≡ xx + yy + zz + 3 * (2048 * 2048) → most ≡ reach + (24577 + 4096 * (x + y + z))
    → q ≡ less + gz → p ≡ most + 4096 * k → nat_le (n + q) p ≡ nat_le (sx + sy + sz) reach
told sx sy sz xx yy zz gx gy gz x y z i j k n less most reach q p ex ey ez en el em eq ep =
    grind (arith, nat_tests)

pub near_shows : (ball : Ball) (block : Block) (bits a b c d : ℕ) (lanes : List ℕ)
    (x y z less most zz : ℕ) → FourBeside bits a b c d 16
    → LanesShow a lanes less most → LanesShow b lanes (less + zz + 1) (most + 4096)
    → LanesShow c lanes (less + 2 * zz + 4) (most + 8192)
    → LanesShow d lanes (less + 3 * zz + 9) (most + 12288) → AreSums lanes x y
    → x + ball.centre.x ≡ block.at.x + 2048 → y + ball.centre.y ≡ block.at.y + 2048
    → z + ball.centre.z ≡ block.at.z + 2048 → zz ≡ 2 * z
    → less ≡ square x + square y + square z + 3 * (2048 * 2048)
    → most ≡ square ball.radius + (24577 + 4096 * (x + y + z))
    → LeafShows bits block (is_in_ball ball)
near_shows ball block bits a b c d lanes x y z less most zz four la lb lc ld sums ex ey ez et el em
    = record { each = λ i j k p q h. each i j k p q h }
  where
    test : (i j k l m : ℕ) → i < 4 → j < 4 → l ≡ less + growth z k → m ≡ most + 4096 * k
        → nat_le (slice_index lanes (i + 4 * j) + l) m ≡ nat_le
        (square (abs_diff ball.centre.x (block.at.x + i)) + square
        (abs_diff ball.centre.y (block.at.y + j)) + square
        (abs_diff ball.centre.z (block.at.z + k))) (square ball.radius)
    test i j k l m p q e f =
        told (square (abs_diff ball.centre.x (block.at.x + i)))
        (square (abs_diff ball.centre.y (block.at.y + j)))
        (square (abs_diff ball.centre.z (block.at.z + k))) (square x) (square y) (square z)
        (growth x i) (growth y j) (growth z k) x y z i j k (slice_index lanes (i + 4 * j)) less most
        (square ball.radius) l m (squared_from ball.centre.x block.at.x x i ex)
        (squared_from ball.centre.y block.at.y y j ey)
        (squared_from ball.centre.z block.at.z z k ez) (sums.each i j p q) el em e f

    each : (i j k : ℕ) → i < 4 → j < 4 → k < 4
        → (bit_at bits (bit_number i j k) == 1) ≡ nat_le
        (square (abs_diff ball.centre.x (block.at.x + i)) + square
        (abs_diff ball.centre.y (block.at.y + j)) + square
        (abs_diff ball.centre.z (block.at.z + k))) (square ball.radius)
    each i j zero p q h = ap (λ (n : ℕ). n == 1) (four.each 0 (i + 4 * j) h (omega arith))
        ∙ la.each (i + 4 * j) (omega arith) ∙ test i j 0 less most p q (omega arith) (omega arith)
    each i j (suc zero) p q h = ap (λ (n : ℕ). n == 1) (four.each 1 (i + 4 * j) h (omega arith))
        ∙ lb.each (i + 4 * j) (omega arith) ∙ test i j 1 _ _ p q (omega arith) (omega arith)
    each i j (suc (suc zero)) p q h = ap (λ (n : ℕ). n == 1)
        (four.each 2 (i + 4 * j) h (omega arith)) ∙ lc.each (i + 4 * j) (omega arith)
        ∙ test i j 2 _ _ p q (omega arith) (omega arith)
    each i j (suc (suc (suc zero))) p q h = ap (λ (n : ℕ). n == 1)
        (four.each 3 (i + 4 * j) h (omega arith)) ∙ ld.each (i + 4 * j) (omega arith)
        ∙ test i j 3 _ _ p q (omega arith) (omega arith)
    each i j (suc (suc (suc (suc k)))) p q h = absurd (omega arith)
