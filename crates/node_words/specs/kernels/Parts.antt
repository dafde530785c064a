-- What the parts of a leaf's bits show, of which the kernels make it: runs of an axis, rows, layers
-- and slides.
use Rattle.std.specs.Prelude.{◌≡◌, ℕ, ◌+◌, ◌-◌, ◌*◌, ◌/◌, ◌%◌, ◌<◌, ◌≤◌, Bool, true, false, List, ◌==◌, ◌&&◌, nat_le, nat_lt, slice_index, length}
use Rattle.std.proofs.Common.{zero, suc}
use Rattle.std.specs.Int.{bit_at, abs_diff}
use Rattle.node_words.specs.Ball.{Ball}
use Rattle.node_words.specs.Block.{Block}
use Rattle.node_words.specs.Places.{square}
use Rattle.node_words.specs.shapes.Shape.{bit_number}

-- p is one of the numbers from `from` on and below `to`
abbrev pub is_from_below : ℕ → ℕ → ℕ → Bool
is_from_below from to p = nat_le from p && nat_lt p to

-- the place of a cell on one axis
abbrev pub x_of : ℕ → ℕ → ℕ → ℕ
x_of x y z = x

abbrev pub y_of : ℕ → ℕ → ℕ → ℕ
y_of x y z = y

abbrev pub z_of : ℕ → ℕ → ℕ → ℕ
z_of x y z = z

-- the bits set are those of the cells whose place on the axis is from `from` on and below `to`
pub record AxisShows (bits : ℕ) (axis : ℕ → ℕ → ℕ → ℕ) (from to : ℕ) : Type 0 where
  pub each : (x y z : ℕ) → x < 4 → y < 4 → z < 4
      → (bit_at bits (bit_number x y z) == 1) ≡ is_from_below from to (axis x y z)

-- four numbers none of which is more than the greatest square
pub record AreSmall (squares : List ℕ) : Type 0 where
  pub four : length squares ≡ 4
  pub each : (i : ℕ) → i < 4 → slice_index squares i ≤ 65538 * 65538

-- on one axis the corner is less than 2,048 above the centre, and no more than that below it
pub record IsNear (centre at : ℕ) : Type 0 where
  pub below : centre ≤ at + 2048
  pub above : at < centre + 2048

pub record IsNearBall (ball : Ball) (block : Block) : Type 0 where
  pub x : IsNear ball.centre.x block.at.x
  pub y : IsNear ball.centre.y block.at.y
  pub z : IsNear ball.centre.z block.at.z

-- sixteen numbers of 16 bits, none of which is 0
pub record AreLanes (lanes : List ℕ) : Type 0 where
  pub sixteen : length lanes ≡ 16
  pub some : (i : ℕ) → i < 16 → 1 ≤ slice_index lanes i
  pub fit : (i : ℕ) → i < 16 → slice_index lanes i ≤ 65535

-- what the square of x grows by where x does by i
abbrev pub growth : ℕ → ℕ → ℕ
growth x i = 2 * (x * i) + i * i

-- for each cell of a layer what the squares of x and y grow by, moved up by as much as keeps it
-- above 0
pub record AreSums (lanes : List ℕ) (x y : ℕ) : Type 0 where
  pub small : AreLanes lanes
  pub each : (i j : ℕ) → i < 4 → j < 4
      → slice_index lanes (i + 4 * j) + 4096 * (i + j) ≡ 24577 + growth x i + growth y j

-- the bits set are those of the lanes that come with `less` to no more than `most`
pub record LanesShow (bits : ℕ) (lanes : List ℕ) (less most : ℕ) : Type 0 where
  pub each : (i : ℕ) → i < 16
      → (bit_at bits i == 1) ≡ nat_le (slice_index lanes i + less) most

-- the squares of the distances of the centre from the four places from `at` on
pub record SquaresFrom (squares : List ℕ) (centre at : ℕ) : Type 0 where
  pub each : (i : ℕ) → i < 4 → slice_index squares i ≡ square (abs_diff centre (at + i))
  pub small : AreSmall squares

-- the bits set are those of the places whose square comes with the rest to no more than the reach
pub record RowShows (bits : ℕ) (x : List ℕ) (rest reach : ℕ) : Type 0 where
  pub each : (i : ℕ) → i < 4 → (bit_at bits i == 1) ≡ nat_le (slice_index x i + rest) reach

pub record LayerShows (bits : ℕ) (x y : List ℕ) (rest reach : ℕ) : Type 0 where
  pub each : (i j : ℕ) → i < 4 → j < 4
      → (bit_at bits (i + 4 * j) == 1) ≡ nat_le (slice_index x i + (slice_index y j + rest)) reach

pub record SumsShow (bits : ℕ) (x y z : List ℕ) (reach : ℕ) : Type 0 where
  pub each : (i j k : ℕ) → i < 4 → j < 4 → k < 4
      → (bit_at bits (bit_number i j k) == 1) ≡ nat_le
      (slice_index x i + (slice_index y j + slice_index z k)) reach

-- one of four, by its number
abbrev pub one_of : ℕ → ℕ → ℕ → ℕ → ℕ → ℕ
one_of a b c d zero = a
one_of a b c d (suc zero) = b
one_of a b c d (suc (suc zero)) = c
one_of a b c d (suc (suc (suc k))) = d

-- two numbers of so many bits, side by side
pub record Beside (bits low high width : ℕ) : Type 0 where
  pub first : (i : ℕ) → i < width → bit_at bits i ≡ bit_at low i
  pub second : (i : ℕ) → bit_at bits (width + i) ≡ bit_at high i

-- four numbers of so many bits, side by side
pub record FourBeside (bits a b c d width : ℕ) : Type 0 where
  pub each : (k i : ℕ) → k < 4 → i < width
      → bit_at bits (i + width * k) ≡ bit_at (one_of a b c d k) i

-- the first of two, or the second
abbrev pub either : ℕ → ℕ → ℕ → ℕ
either low high zero = low
either low high (suc k) = high

-- the bits of the cells that are `by` further on one axis, of two leaves that follow each other on
-- it
pub record SlidesX (bits low high by : ℕ) : Type 0 where
  pub each : (x y z : ℕ) → x < 4 → y < 4 → z < 4
      → bit_at bits (bit_number x y z) ≡ bit_at (either low high ((x + by) / 4))
      (bit_number ((x + by) % 4) y z)

pub record SlidesY (bits low high by : ℕ) : Type 0 where
  pub each : (x y z : ℕ) → x < 4 → y < 4 → z < 4
      → bit_at bits (bit_number x y z) ≡ bit_at (either low high ((y + by) / 4))
      (bit_number x ((y + by) % 4) z)

pub record SlidesZ (bits low high by : ℕ) : Type 0 where
  pub each : (x y z : ℕ) → x < 4 → y < 4 → z < 4
      → bit_at bits (bit_number x y z) ≡ bit_at (either low high ((z + by) / 4))
      (bit_number x y ((z + by) % 4))

-- where the mask has a one, the bit that is `down` above, and else the bit that is `up` below
pub record Mixes (bits low high mask down up : ℕ) : Type 0 where
  pub from_low : (i : ℕ) → i < 64 → (bit_at mask i == 1) ≡ true
      → bit_at bits i ≡ bit_at low (down + i)
  pub from_high : (i : ℕ) → i < 64 → (bit_at mask i == 1) ≡ false → up ≤ i
      → bit_at bits i ≡ bit_at high (i - up)
