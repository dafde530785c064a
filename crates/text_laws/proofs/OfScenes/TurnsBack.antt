-- Each place of a turned model is where a place of the model goes.
use Rattle.std.proofs.Common.{◌≡◌, ℕ, ◌-◌, ◌<◌, Bool, true, false, if◌then◌else◌, refl, ap, subst, arith}
use Rattle.std.specs.Prelude.{◌≢◌}
use Rattle.vw_cell.specs.declared.cells.Cell.{Cell}
use Rattle.vw_cell.specs.Counts.{IsBelow}
use Rattle.vox_scene.specs.declared.rotations.Axis.{Axis}
use Rattle.vox_scene.specs.declared.rotations.Axis.TheVariants.{X, Y, Z}
use Rattle.vox_scene.specs.declared.rotations.Row.{Row}
use Rattle.vox_scene.specs.declared.rotations.Rotation.{Rotation}
use Rattle.vox_scene.specs.Painted.{IsMatrix}
use Rattle.vox_scene.specs.Placing.{extent_at, rotated_size, rotated_axis, rotated_cell}

-- ---- one axis

abbrev other_end : Bool → ℕ → ℕ → ℕ
other_end negative extent at = if negative then extent - 1 - at else at

by_sign : (negative : Bool) (extent from at : ℕ) → at < extent → from ≡ other_end negative extent at
    → (other_end negative extent from ≡ at) × (from < extent)
by_sign true extent from at lt is = (omega (arith, lt, is), omega (arith, lt, is))
by_sign false extent from at lt is = (is, omega (arith, lt, is))

abbrev back_to : Row → Cell → ℕ → ℕ
back_to row size at = other_end row.is_negative (extent_at row.column size) at

row_back : (row : Row) (size from : Cell) (at : ℕ) → at < extent_at row.column size
    → extent_at row.column from ≡ back_to row size at
    → (rotated_axis row size from ≡ at) × (extent_at row.column from < extent_at row.column size)
row_back row size from at lt is =
    by_sign row.is_negative (extent_at row.column size) (extent_at row.column from) at lt is

below_on : (axis other : Axis) (from size : Cell) → axis ≡ other
    → extent_at axis from < extent_at axis size → extent_at other from < extent_at other size
below_on axis other from size same lt =
    subst (λ (a : Axis). extent_at a from < extent_at a size) same lt

-- ---- all three

pub record ComesFrom (r : Rotation) (size at from : Cell) : Type 0 where
  pub inside : IsBelow size from
  pub x : rotated_axis r.x size from ≡ at.x
  pub y : rotated_axis r.y size from ≡ at.y
  pub z : rotated_axis r.z size from ≡ at.z

abbrev Comes : Rotation → Cell → Cell → Type 0
Comes r size at = (from : Cell) × ComesFrom r size at from

by_axes : (a b c : Axis) (r : Rotation) (size at : Cell) → r.x.column ≡ a → r.y.column ≡ b
    → r.z.column ≡ c → a ≢ b → a ≢ c → b ≢ c → IsBelow (rotated_size r size) at → Comes r size at
by_axes X X X r size at of_x of_y of_z ab ac bc below = absurd (ab refl)
by_axes X X Y r size at of_x of_y of_z ab ac bc below = absurd (ab refl)
by_axes X X Z r size at of_x of_y of_z ab ac bc below = absurd (ab refl)
by_axes X Y X r size at of_x of_y of_z ab ac bc below = absurd (ac refl)
by_axes X Y Y r size at of_x of_y of_z ab ac bc below = absurd (bc refl)
by_axes X Y Z r size at of_x of_y of_z ab ac bc below =
    let from : Cell = record {
      x = back_to r.x size at.x;
      y = back_to r.y size at.y;
      z = back_to r.z size at.z;
    } in
    let by_x =
    row_back r.x size from at.x below.x (ap (λ (axis : Axis). extent_at axis from) of_x) in
    let by_y =
    row_back r.y size from at.y below.y (ap (λ (axis : Axis). extent_at axis from) of_y) in
    let by_z =
    row_back r.z size from at.z below.z (ap (λ (axis : Axis). extent_at axis from) of_z) in (
      from,
      record {
        inside = record {
          x = below_on r.x.column X from size of_x by_x.1;
          y = below_on r.y.column Y from size of_y by_y.1;
          z = below_on r.z.column Z from size of_z by_z.1;
        };
        x = by_x.0;
        y = by_y.0;
        z = by_z.0;
      },
    )
by_axes X Z X r size at of_x of_y of_z ab ac bc below = absurd (ac refl)
by_axes X Z Y r size at of_x of_y of_z ab ac bc below =
    let from : Cell = record {
      x = back_to r.x size at.x;
      y = back_to r.z size at.z;
      z = back_to r.y size at.y;
    } in
    let by_x =
    row_back r.x size from at.x below.x (ap (λ (axis : Axis). extent_at axis from) of_x) in
    let by_y =
    row_back r.y size from at.y below.y (ap (λ (axis : Axis). extent_at axis from) of_y) in
    let by_z =
    row_back r.z size from at.z below.z (ap (λ (axis : Axis). extent_at axis from) of_z) in (
      from,
      record {
        inside = record {
          x = below_on r.x.column X from size of_x by_x.1;
          y = below_on r.z.column Y from size of_z by_z.1;
          z = below_on r.y.column Z from size of_y by_y.1;
        };
        x = by_x.0;
        y = by_y.0;
        z = by_z.0;
      },
    )
by_axes X Z Z r size at of_x of_y of_z ab ac bc below = absurd (bc refl)
by_axes Y X X r size at of_x of_y of_z ab ac bc below = absurd (bc refl)
by_axes Y X Y r size at of_x of_y of_z ab ac bc below = absurd (ac refl)
by_axes Y X Z r size at of_x of_y of_z ab ac bc below =
    let from : Cell = record {
      x = back_to r.y size at.y;
      y = back_to r.x size at.x;
      z = back_to r.z size at.z;
    } in
    let by_x =
    row_back r.x size from at.x below.x (ap (λ (axis : Axis). extent_at axis from) of_x) in
    let by_y =
    row_back r.y size from at.y below.y (ap (λ (axis : Axis). extent_at axis from) of_y) in
    let by_z =
    row_back r.z size from at.z below.z (ap (λ (axis : Axis). extent_at axis from) of_z) in (
      from,
      record {
        inside = record {
          x = below_on r.y.column X from size of_y by_y.1;
          y = below_on r.x.column Y from size of_x by_x.1;
          z = below_on r.z.column Z from size of_z by_z.1;
        };
        x = by_x.0;
        y = by_y.0;
        z = by_z.0;
      },
    )
by_axes Y Y X r size at of_x of_y of_z ab ac bc below = absurd (ab refl)
by_axes Y Y Y r size at of_x of_y of_z ab ac bc below = absurd (ab refl)
by_axes Y Y Z r size at of_x of_y of_z ab ac bc below = absurd (ab refl)
by_axes Y Z X r size at of_x of_y of_z ab ac bc below =
    let from : Cell = record {
      x = back_to r.z size at.z;
      y = back_to r.x size at.x;
      z = back_to r.y size at.y;
    } in
    let by_x =
    row_back r.x size from at.x below.x (ap (λ (axis : Axis). extent_at axis from) of_x) in
    let by_y =
    row_back r.y size from at.y below.y (ap (λ (axis : Axis). extent_at axis from) of_y) in
    let by_z =
    row_back r.z size from at.z below.z (ap (λ (axis : Axis). extent_at axis from) of_z) in (
      from,
      record {
        inside = record {
          x = below_on r.z.column X from size of_z by_z.1;
          y = below_on r.x.column Y from size of_x by_x.1;
          z = below_on r.y.column Z from size of_y by_y.1;
        };
        x = by_x.0;
        y = by_y.0;
        z = by_z.0;
      },
    )
by_axes Y Z Y r size at of_x of_y of_z ab ac bc below = absurd (ac refl)
by_axes Y Z Z r size at of_x of_y of_z ab ac bc below = absurd (bc refl)
by_axes Z X X r size at of_x of_y of_z ab ac bc below = absurd (bc refl)
by_axes Z X Y r size at of_x of_y of_z ab ac bc below =
    let from : Cell = record {
      x = back_to r.y size at.y;
      y = back_to r.z size at.z;
      z = back_to r.x size at.x;
    } in
    let by_x =
    row_back r.x size from at.x below.x (ap (λ (axis : Axis). extent_at axis from) of_x) in
    let by_y =
    row_back r.y size from at.y below.y (ap (λ (axis : Axis). extent_at axis from) of_y) in
    let by_z =
    row_back r.z size from at.z below.z (ap (λ (axis : Axis). extent_at axis from) of_z) in (
      from,
      record {
        inside = record {
          x = below_on r.y.column X from size of_y by_y.1;
          y = below_on r.z.column Y from size of_z by_z.1;
          z = below_on r.x.column Z from size of_x by_x.1;
        };
        x = by_x.0;
        y = by_y.0;
        z = by_z.0;
      },
    )
by_axes Z X Z r size at of_x of_y of_z ab ac bc below = absurd (ac refl)
by_axes Z Y X r size at of_x of_y of_z ab ac bc below =
    let from : Cell = record {
      x = back_to r.z size at.z;
      y = back_to r.y size at.y;
      z = back_to r.x size at.x;
    } in
    let by_x =
    row_back r.x size from at.x below.x (ap (λ (axis : Axis). extent_at axis from) of_x) in
    let by_y =
    row_back r.y size from at.y below.y (ap (λ (axis : Axis). extent_at axis from) of_y) in
    let by_z =
    row_back r.z size from at.z below.z (ap (λ (axis : Axis). extent_at axis from) of_z) in (
      from,
      record {
        inside = record {
          x = below_on r.z.column X from size of_z by_z.1;
          y = below_on r.y.column Y from size of_y by_y.1;
          z = below_on r.x.column Z from size of_x by_x.1;
        };
        x = by_x.0;
        y = by_y.0;
        z = by_z.0;
      },
    )
by_axes Z Y Y r size at of_x of_y of_z ab ac bc below = absurd (bc refl)
by_axes Z Y Z r size at of_x of_y of_z ab ac bc below = absurd (ac refl)
by_axes Z Z X r size at of_x of_y of_z ab ac bc below = absurd (ab refl)
by_axes Z Z Y r size at of_x of_y of_z ab ac bc below = absurd (ab refl)
by_axes Z Z Z r size at of_x of_y of_z ab ac bc below = absurd (ab refl)

pub turns_back : (r : Rotation) (size at : Cell) → IsMatrix r → IsBelow (rotated_size r size) at
    → Comes r size at
turns_back r size at matrix below =
    by_axes r.x.column r.y.column r.z.column r size at refl refl refl matrix.first matrix.second
    matrix.third below

-- ---- a place goes into the turned model

sign_below : (negative : Bool) (extent from : ℕ) → from < extent
    → other_end negative extent from < extent
sign_below true extent from lt = omega (arith, lt)
sign_below false extent from lt = lt

column_below : (axis : Axis) (from size : Cell) → IsBelow size from
    → extent_at axis from < extent_at axis size
column_below X from size below = below.x
column_below Y from size below = below.y
column_below Z from size below = below.z

row_below : (row : Row) (size from : Cell) → IsBelow size from
    → rotated_axis row size from < extent_at row.column size
row_below row size from below =
    sign_below row.is_negative (extent_at row.column size) (extent_at row.column from)
    (column_below row.column from size below)

pub place_below : (r : Rotation) (size from : Cell) → IsBelow size from
    → IsBelow (rotated_size r size) (rotated_cell r size from)
place_below r size from below = record {
  x = row_below r.x size from below;
  y = row_below r.y size from below;
  z = row_below r.z size from below;
}
