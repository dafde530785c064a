-- The bits of a ball, row by row.
use Rattle.std.proofs.Common.{
  ◌≡◌,
  ℕ,
  zero,
  suc,
  ◌+◌,
  ◌-◌,
  ◌*◌,
  ◌%◌,
  ◌^◌,
  ◌<◌,
  ◌≤◌,
  true,
  false,
  List,
  ◌∷◌,
  [],
  ◌==◌,
  refl,
  ap,
  ◌∙◌,
  arith,
  max,
  map,
  cond,
  get_or,
  Bool,
  length,
}
use Rattle.std.specs.Prelude.{bit_or, nat_le, slice_index}
use Rattle.std.specs.Int.{bit_at, abs_diff}
use Rattle.std.proofs.lemmas.Bool.Decides.{nat_tests}
use Rattle.std.proofs.lemmas.Nat.{or_shifted, or_comm, shl_whole, pow-add, mul-add-lt}
use Rattle.std.proofs.lemmas.Nat.Bits.{bit_at-zero, bit_at_ones, bit_at_cat_low, bit_at_cat_high}
use Rattle.std.proofs.Math.Nat.{mul-le-mul}
use Rattle.std.proofs.lemmas.Simd.{bit_mask_l, mask_l-lt}
use Rattle.std.proofs.lemmas.List.{get_or-map, length-map}
use lib.Lanes.{mask_l}
use lib.Dec.{leb}
use Rattle.node_words.specs.Ball.{Ball}
use Rattle.node_words.specs.Block.{Block}
use Rattle.node_words.specs.Places.{is_in_ball, square}
use Rattle.node_words.specs.shapes.Shape.{bit_number}
use Rattle.node_words.specs.kernels.Leaves.{LeafShows}
use Rattle.node_words.specs.kernels.Parts.{AreSmall, SquaresFrom, SumsShow, LayerShows, RowShows, one_of, FourBeside, Beside}

pub square_bound : (n : ℕ) → n ≤ 65538 → n * n ≤ 65538 * 65538
square_bound n h = mul-le-mul h h

-- the least and the greatest distance bound each
pub near_below : (centre at d i : ℕ) → d ≡ max (at - centre) (centre - (at + 3)) → i < 4
    → square d ≤ square (abs_diff centre (at + i))
near_below centre at d i e h =
    let less : d ≤ abs_diff centre (at + i) = omega arith in mul-le-mul less less

pub far_above : (centre at d i : ℕ) → d ≡ max (abs_diff centre at) (abs_diff centre (at + 3))
    → i < 4 → square (abs_diff centre (at + i)) ≤ square d
far_above centre at d i e h =
    let less : abs_diff centre (at + i) ≤ d = omega arith in mul-le-mul less less

-- four squares
pub squares_from : (centre at a b c d : ℕ) → a ≡ square (abs_diff centre at)
    → b ≡ square (abs_diff centre (at + 1)) → c ≡ square (abs_diff centre (at + 2))
    → d ≡ square (abs_diff centre (at + 3))
    → a ≤ 65538 * 65538 → b ≤ 65538 * 65538 → c ≤ 65538 * 65538 → d ≤ 65538 * 65538
    → SquaresFrom (a ∷ b ∷ c ∷ d ∷ []) centre at
squares_from centre at a b c d ea eb ec ed la lb lc ld = record {
  each = value;
  small = record { four = refl; each = small };
}
  where
    value : (i : ℕ) → i < 4 → slice_index (a ∷ b ∷ c ∷ d ∷ []) i ≡ square (abs_diff centre (at + i))
    value zero h = let e : at ≡ at + 0 = omega arith in ea
        ∙ ap (λ (n : ℕ). square (abs_diff centre n)) e
    value (suc zero) h = eb
    value (suc (suc zero)) h = ec
    value (suc (suc (suc zero))) h = ed
    value (suc (suc (suc (suc i)))) h = absurd (omega arith)

    small : (i : ℕ) → i < 4 → slice_index (a ∷ b ∷ c ∷ d ∷ []) i ≤ 65538 * 65538
    small zero h = la
    small (suc zero) h = lb
    small (suc (suc zero)) h = lc
    small (suc (suc (suc zero))) h = ld
    small (suc (suc (suc (suc i)))) h = absurd (omega arith)

-- two numbers side by side
together : (low high width : ℕ) → width ≤ 32 → low < 2 ^ width → high < 2 ^ width
    → bit_or low (high * 2 ^ width % 2 ^ 64) ≡ high * 2 ^ width + low
together low high width h p q =
    ap (bit_or low) (shl_whole high width width 64 q (omega arith))
    ∙ or_comm low (high * 2 ^ width) ∙ or_shifted high width low p

pub are_beside : (low high width : ℕ) → width ≤ 32 → low < 2 ^ width → high < 2 ^ width
    → Beside (bit_or low (high * 2 ^ width % 2 ^ 64)) low high width
are_beside low high width h p q =
    let e = together low high width h p q in
    record {
      first = λ i lt. ap (λ (n : ℕ). bit_at n i) e ∙ bit_at_cat_low high width low i lt;
      second = λ i.
          let place : width + i - width ≡ i = omega arith in
          ap (λ (n : ℕ). bit_at n (width + i)) e
          ∙ bit_at_cat_high high width low (width + i) p (omega arith) ∙ ap (bit_at high) place;
    }

pub beside_fits : (low high width : ℕ) → width ≤ 32 → low < 2 ^ width → high < 2 ^ width
    → bit_or low (high * 2 ^ width % 2 ^ 64) < 2 ^ (2 * width)
beside_fits low high width h p q =
    let twice : 2 * width ≡ width + width = omega arith in
    let fits : high * 2 ^ width + low < 2 ^ width * 2 ^ width =
    mul-add-lt high (2 ^ width) low (2 ^ width) q p in
    rw (together low high width h p q, twice, pow-add) fits

pub four_fit : (bits width : ℕ) → bits < 2 ^ (2 * (2 * width)) → bits < 2 ^ (4 * width)
four_fit bits width h = let e : 2 * (2 * width) ≡ 4 * width = omega arith in rw (← e) h

pub four_beside : (bits a b c d p q width : ℕ) → Beside bits p q (2 * width) → Beside p a b width
    → Beside q c d width → FourBeside bits a b c d width
four_beside bits a b c d p q width whole first second = record { each = each }
  where
    each : (k i : ℕ) → k < 4 → i < width → bit_at bits (i + width * k) ≡ bit_at (one_of a b c d k) i
    each zero i h lt =
        let place : i + width * 0 ≡ i = omega arith in
        ap (bit_at bits) place ∙ whole.first i (omega arith) ∙ first.first i lt
    each (suc zero) i h lt =
        let place : i + width * 1 ≡ width + i = omega arith in
        ap (bit_at bits) place ∙ whole.first (width + i) (omega arith) ∙ first.second i
    each (suc (suc zero)) i h lt =
        let place : i + width * 2 ≡ 2 * width + i = omega arith in
        ap (bit_at bits) place ∙ whole.second i ∙ second.first i lt
    each (suc (suc (suc zero))) i h lt =
        let place : i + width * 3 ≡ 2 * width + (width + i) = omega arith in
        ap (bit_at bits) place ∙ whole.second (width + i) ∙ second.second i
    each (suc (suc (suc (suc k)))) i h lt = absurd (omega arith)

pub no_row : (x : List ℕ) (rest reach : ℕ) → reach < rest → RowShows 0 x rest reach
no_row x rest reach h =
    record {
      each = λ i lt. ap (λ (n : ℕ). n == 1) (bit_at-zero i)
          ∙ too_far (slice_index x i) rest reach h;
    }
  where
    too_far : (n rest reach : ℕ) → reach < rest → false ≡ nat_le (n + rest) reach
    too_far n rest reach h = grind (arith, nat_tests)

within_left : (n rest reach : ℕ) → rest ≤ reach → leb n (reach - rest) ≡ nat_le (n + rest) reach
within_left n rest reach h = grind (arith, nat_tests)

pub set_when : (b : Bool) → (cond b 1 0 == 1) ≡ b
set_when true = refl
set_when false = refl

-- the mask of four tests against what the rest leaves
pub row_shows : (bits : ℕ) (x : List ℕ) (rest reach : ℕ) → AreSmall x → rest ≤ reach
    → bits ≡ mask_l (map (λ (n : ℕ). leb n (reach - rest)) x) → RowShows bits x rest reach
row_shows bits x rest reach small h e = record {
  each = λ i lt.
      let inside : i < length x = rw small.four lt in
      let p : ℕ → Bool = λ n. leb n (reach - rest) in
      ap (λ (n : ℕ). bit_at n i == 1) e
      ∙ ap (λ (n : ℕ). n == 1) (bit_mask_l (map p x) i)
      ∙ set_when (get_or (map p x) i false)
      ∙ get_or-map p x i 0 false inside
      ∙ within_left (slice_index x i) rest reach h;
}

pub row_small : (bits : ℕ) (x : List ℕ) (left : ℕ) → AreSmall x
    → bits ≡ mask_l (map (λ (n : ℕ). leb n left) x) → bits < 2 ^ 4
row_small bits x left small e =
    let p : ℕ → Bool = λ n. leb n left in
    let long : length (map p x) ≡ 4 = simp length-map small.four in
    let below : mask_l (map p x) < 2 ^ length (map p x) = mask_l-lt (map p x) in
    rw e (rw long at below)

pub layer_shows : (bits : ℕ) (x y : List ℕ) (rest reach a b c d : ℕ) → FourBeside bits a b c d 4
    → RowShows a x (slice_index y 0 + rest) reach → RowShows b x (slice_index y 1 + rest) reach
    → RowShows c x (slice_index y 2 + rest) reach → RowShows d x (slice_index y 3 + rest) reach
    → LayerShows bits x y rest reach
layer_shows bits x y rest reach a b c d parts ra rb rc rd = record { each = each }
  where
    each : (i j : ℕ) → i < 4 → j < 4
        → (bit_at bits (i + 4 * j) == 1) ≡ nat_le (slice_index x i + (slice_index y j + rest)) reach
    each i zero p h = ap (λ (n : ℕ). n == 1) (parts.each 0 i h p) ∙ ra.each i p
    each i (suc zero) p h = ap (λ (n : ℕ). n == 1) (parts.each 1 i h p) ∙ rb.each i p
    each i (suc (suc zero)) p h = ap (λ (n : ℕ). n == 1) (parts.each 2 i h p) ∙ rc.each i p
    each i (suc (suc (suc zero))) p h = ap (λ (n : ℕ). n == 1) (parts.each 3 i h p) ∙ rd.each i p
    each i (suc (suc (suc (suc k)))) p h = absurd (omega arith)

pub sums_show : (bits : ℕ) (x y z : List ℕ) (reach a b c d : ℕ) → FourBeside bits a b c d 16
    → LayerShows a x y (slice_index z 0) reach → LayerShows b x y (slice_index z 1) reach
    → LayerShows c x y (slice_index z 2) reach → LayerShows d x y (slice_index z 3) reach
    → SumsShow bits x y z reach
sums_show bits x y z reach a b c d parts la lb lc ld =
    record { each = λ i j k p q h. each i j k p q h }
  where
    each : (i j k : ℕ) → i < 4 → j < 4 → k < 4
        → (bit_at bits (bit_number i j k) == 1) ≡ nat_le
        (slice_index x i + (slice_index y j + slice_index z k)) reach
    each i j zero p q h = ap (λ (n : ℕ). n == 1) (parts.each 0 (i + 4 * j) h (omega arith))
        ∙ la.each i j p q
    each i j (suc zero) p q h = ap (λ (n : ℕ). n == 1) (parts.each 1 (i + 4 * j) h (omega arith))
        ∙ lb.each i j p q
    each i j (suc (suc zero)) p q h = ap (λ (n : ℕ). n == 1)
        (parts.each 2 (i + 4 * j) h (omega arith)) ∙ lc.each i j p q
    each i j (suc (suc (suc zero))) p q h = ap (λ (n : ℕ). n == 1)
        (parts.each 3 (i + 4 * j) h (omega arith)) ∙ ld.each i j p q
    each i j (suc (suc (suc (suc k)))) p q h = absurd (omega arith)

same_sum : {a b c a' b' c' : ℕ} → a ≡ a' → b ≡ b' → c ≡ c' → a + (b + c) ≡ a' + b' + c'
same_sum p q r = omega arith

outside : {x y z a b c reach most : ℕ} → reach < x + y + z → reach ≡ most → x ≤ a → y ≤ b → z ≤ c
    → false ≡ nat_le (a + b + c) most
outside out e p q r = grind (arith, nat_tests)

inside : {x y z a b c reach most : ℕ} → x + y + z ≤ reach → reach ≡ most → a ≤ x → b ≤ y → c ≤ z
    → true ≡ nat_le (a + b + c) most
inside within e p q r = grind (arith, nat_tests)

pub ball_shows : (ball : Ball) (block : Block) (bits : ℕ) (x y z : List ℕ) (reach : ℕ)
    → SumsShow bits x y z reach → reach ≡ square ball.radius
    → SquaresFrom x ball.centre.x block.at.x → SquaresFrom y ball.centre.y block.at.y
    → SquaresFrom z ball.centre.z block.at.z → LeafShows bits block (is_in_ball ball)
ball_shows ball block bits x y z reach sums er sx sy sz = record {
  each = λ i j k p q r.
      let total : slice_index x i + (slice_index y j + slice_index z k)
      ≡ square (abs_diff ball.centre.x (block.at.x + i)) + square
      (abs_diff ball.centre.y (block.at.y + j)) + square
      (abs_diff ball.centre.z (block.at.z + k)) =
      same_sum (sx.each i p) (sy.each j q) (sz.each k r)
      in
      sums.each i j k p q r ∙ ap (λ (n : ℕ). nat_le n reach) total
      ∙ ap (λ (n : ℕ). nat_le
      (square (abs_diff ball.centre.x (block.at.x + i)) + square
      (abs_diff ball.centre.y (block.at.y + j)) + square
      (abs_diff ball.centre.z (block.at.z + k))) n) er;
}

pub all_outside : (ball : Ball) (block : Block) (x y z reach : ℕ) → reach < x + y + z
    → reach ≡ square ball.radius
    → ((i : ℕ) → i < 4 → x ≤ square (abs_diff ball.centre.x (block.at.x + i)))
    → ((i : ℕ) → i < 4 → y ≤ square (abs_diff ball.centre.y (block.at.y + i)))
    → ((i : ℕ) → i < 4 → z ≤ square (abs_diff ball.centre.z (block.at.z + i)))
    → LeafShows 0 block (is_in_ball ball)
all_outside ball block x y z reach out er px py pz = record {
  each = λ i j k p q r. ap (λ (n : ℕ). n == 1) (bit_at-zero (bit_number i j k))
      ∙ outside out er (px i p) (py j q) (pz k r);
}

pub all_inside : (ball : Ball) (block : Block) (bits x y z reach : ℕ) → bits ≡ 2 ^ 64 - 1
    → x + y + z ≤ reach → reach ≡ square ball.radius
    → ((i : ℕ) → i < 4 → square (abs_diff ball.centre.x (block.at.x + i)) ≤ x)
    → ((i : ℕ) → i < 4 → square (abs_diff ball.centre.y (block.at.y + i)) ≤ y)
    → ((i : ℕ) → i < 4 → square (abs_diff ball.centre.z (block.at.z + i)) ≤ z)
    → LeafShows bits block (is_in_ball ball)
all_inside ball block bits x y z reach whole within er px py pz = record {
  each = λ i j k p q r.
      ap (λ (n : ℕ). bit_at n (bit_number i j k) == 1) whole
      ∙ ap (λ (n : ℕ). n == 1) (bit_at_ones 64 (bit_number i j k) (omega arith))
      ∙ inside within er (px i p) (py j q) (pz k r);
}
